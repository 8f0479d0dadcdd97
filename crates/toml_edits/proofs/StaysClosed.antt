-- Data in which nothing stands below nothing stay so under an edit without a fault.
use Rattle.std.proofs.Common.{◌≡◌, ◌⊎◌, inl, inr, ℕ, List, [], ◌∷◌, ◌++◌, length, Option, Some, None, Bool, true, false, cond, refl, sym, ap, ◌∙◌, append-nil, append_assoc, arith}
use Rattle.std.proofs.lemmas.List.{length-append}
use Rattle.std.proofs.lemmas.Option.{same_Some, none-some}
use Rattle.toml_tree.specs.declared.profile.Profile.{Profile}
use Rattle.toml_names.specs.declared.model.address.Step.{Step}
use Rattle.toml_names.specs.declared.model.address.Step.TheVariants.{Name, Index}
use Rattle.toml_names.specs.model.Addresses.{Address, child, element, same_step}
use Rattle.toml_names.specs.model.Data.{Kinds, IsClosed}
use Rattle.toml_names.specs.mentions.Mentions.{Kind}
use Rattle.toml_names.proofs.Proved.{values_are_closed}
use Rattle.toml_edits.specs.declared.fault.EditFault.TheVariants.{NotAnElement, NoSuchPlace}
use Rattle.toml_edits.specs.After.{Comes, Moves, AddsElement, nothing, an_empty_table, one_empty_table}
use Rattle.toml_edits.specs.Carry.{Carrier, carry, carry_below, nowhere, up_from, inserting, parted}
use Rattle.toml_edits.specs.Edits.{set, insert, rename, remove, new_section, new_element}
use Rattle.toml_edits.specs.Faults.{IsFault}
use Rattle.toml_edits.specs.ListLaws.{StaysClosed, LeadsStayClosed}
use Rattle.toml_edits.specs.ValueTexts.{IsGoodValue}
use Rattle.toml_edits.proofs.Along.{ends}
use Rattle.toml_edits.proofs.Fronts.{IsFrontal, below_front, nowhere_front, carried_front}
use Rattle.toml_edits.proofs.LastStep.{no_root, same_last, same_parent, parted_at_last}
use Rattle.toml_edits.proofs.Standing.{Has}
use Rattle.toml_edits.proofs.Ways.{carried, carry_joined}

prefix_same : (to rest a : Address) (s : Step) → a ++ s ∷ [] ≡ to ++ rest → length to ≡ length a → a ≡ to
prefix_same [] rest [] s e l = refl
prefix_same [] rest (t ∷ a) s e l = absurd (omega arith)
prefix_same (u ∷ to) rest [] s e l = absurd (omega arith)
prefix_same (u ∷ to) rest (t ∷ a) s e l =
    let first : t ≡ u = cc in
    let more : a ++ s ∷ [] ≡ to ++ rest = cc in
    ap (λ x. x ∷ a) first ∙ ap (λ x. u ∷ x) (prefix_same to rest a s more (omega arith))

-- what is carried somewhere is carried to an address as long
as_long : (c : Carrier) → IsFrontal c → (b to : Address) → c b ≡ Some to → length to ≡ length b
as_long c frontal b to e =
    let f = frontal b [] to (ap c (append-nil b) ∙ e) in
    ap length (same_Some to f.to (sym e ∙ f.carried)) ∙ f.same

-- the parent of what is carried is carried to the parent
parent_carried : (c : Carrier) → IsFrontal c → (b a : Address) (t s : Step) → c (b ++ t ∷ []) ≡ Some (a ++ s ∷ []) → c b ≡ Some a
parent_carried c frontal b a t s e =
    let f = frontal b (t ∷ []) (a ++ s ∷ []) e in
    let whole = as_long c frontal (b ++ t ∷ []) (a ++ s ∷ []) e in
    let same = f.same in
    let one = length-append a (s ∷ []) in
    let two = length-append b (t ∷ []) in
    f.carried ∙ ap Some (sym (prefix_same f.to f.rest a s f.whole (omega arith)))

root_stays : (c : Carrier) → IsFrontal c → (a : Address) (s : Step) → c [] ≡ Some (a ++ s ∷ []) → ⊥
root_stays c frontal a s e =
    let whole = as_long c frontal [] (a ++ s ∷ []) e in
    let one = length-append a (s ∷ []) in
    absurd (omega arith)

-- where something stands something stands above
pub above_there : (kinds : Kinds) → IsClosed kinds → (q : Address) (t : Step) (k : Kind) → kinds (q ++ t ∷ []) ≡ Some k → Has kinds q
above_there kinds closed q t k is = by (kinds q) refl
  where
    by : (o : Option Kind) → kinds q ≡ o → Has kinds q
    by None e = absurd (none-some k (sym (closed q t e) ∙ is))
    by (Some l) e = (l, e)

module _ (c : Carrier) (p : Address) (v old new : Kinds) (moves : Moves c p v old new) (frontal : IsFrontal c) (closed : IsClosed old) (whole : IsClosed v) (parent : (q : Address) (s : Step) → p ≡ q ++ s ∷ [] → Has new q) where
  carried_above : (a : Address) (s : Step) (k : Kind) (b : Address) → old b ≡ Some k → c b ≡ Some (a ++ s ∷ []) → Has new a
  carried_above a s k b is to = by (ends b)
    where
      by : (b ≡ []) ⊎ ((q : Address) × (t : Step) × (b ≡ q ++ t ∷ [])) → Has new a
      by (inl nil) = absurd (root_stays c frontal a s (ap c (sym nil) ∙ to))
      by (inr (q, t, e)) =
          let there = above_there old closed q t k (ap old (sym e) ∙ is) in
          (there.0, moves.carried a q there.0 there.1 (parent_carried c frontal q a t s (ap c (sym e) ∙ to)))

  placed_above : (a : Address) (s : Step) (k : Kind) (r : Address) → a ++ s ∷ [] ≡ p ++ r → v r ≡ Some k → Has new a
  placed_above a s k r at is = by (ends r)
    where
      by : (r ≡ []) ⊎ ((q : Address) × (t : Step) × (r ≡ q ++ t ∷ [])) → Has new a
      by (inl nil) = parent a s (sym (at ∙ ap (λ x. p ++ x) nil ∙ append-nil p))
      by (inr (q, t, e)) =
          let there = above_there v whole q t k (ap v (sym e) ∙ is) in
          let same : a ≡ p ++ q = same_parent a (p ++ q) s t (at ∙ ap (λ x. p ++ x) e ∙ sym (append_assoc p q (t ∷ []))) in
          (there.0, ap new same ∙ moves.placed q there.0 there.1)

  comes_above : (a : Address) (s : Step) (k : Kind) → Comes c p v old (a ++ s ∷ []) k → Has new a
  comes_above a s k (inl (b, is, to)) = carried_above a s k b is to
  comes_above a s k (inr (r, at, is)) = placed_above a s k r at is

  pub moves_closed : IsClosed new
  moves_closed a s none = by (new (a ++ s ∷ [])) refl
    where
      by : (o : Option Kind) → new (a ++ s ∷ []) ≡ o → new (a ++ s ∷ []) ≡ None
      by None e = e
      by (Some k) e = let there = comes_above a s k (moves.no_other (a ++ s ∷ []) k e) in absurd (none-some there.0 (sym none ∙ there.1))

nothing_closed : IsClosed nothing
nothing_closed a s none = refl

no_parent : (new : Kinds) (q : Address) (s : Step) → [] ≡ q ++ s ∷ [] → Has new q
no_parent new q s is = absurd (no_root q s (sym is))

value_closed : (profile : Profile) (text : List ℕ) (v : Kinds) → IsGoodValue profile text v → IsClosed v
value_closed profile text v good = values_are_closed good.value.tree v good.value.keeps good.facts

-- the place above a `set` keeps what it has
set_parent : (profile : Profile) (at : Address) (value : List ℕ) (v old new : Kinds) → IsClosed old → IsFault profile (set at value) old None → Moves (carry_below at nowhere) at v old new → (q : Address) (s : Step) → at ≡ q ++ s ∷ [] → Has new q
set_parent profile at value v old new closed fault moves q s is = by (old at) refl
  where
    by : (o : Option Kind) → old at ≡ o → Has new q
    by None e = absurd (fault NoSuchPlace e)
    by (Some k) e =
        let there = above_there old closed q s k (ap old (sym is) ∙ e) in
        let keeps : carry_below at nowhere q ≡ Some q =
        ap (λ x. carry_below x nowhere q) is ∙ carry_joined q (s ∷ []) nowhere q ∙ carried q (carry_below (s ∷ []) nowhere) q [] (Some []) (sym (append-nil q)) refl ∙ ap Some (append-nil q) in
        (there.0, moves.carried q q there.0 there.1 keeps)

insert_keeps : (q : Address) (s : Step) → inserting (Some (q, s)) q ≡ Some q
insert_keeps q (Name n) = refl
insert_keeps q (Index i) = carried q (up_from i) q [] (Some []) (sym (append-nil q)) refl ∙ ap Some (append-nil q)

insert_parent : (profile : Profile) (at : Address) (value : List ℕ) (v old new : Kinds) → IsFault profile (insert at value) old None → Moves (carry (insert at value)) at v old new → (q : Address) (s : Step) → at ≡ q ++ s ∷ [] → Has new q
insert_parent profile at value v old new fault moves q s is = by (old q) refl
  where
    by : (o : Option Kind) → old q ≡ o → Has new q
    by None e = absurd (fault NoSuchPlace (q, s, is, e))
    by (Some k) e = (k, moves.carried q q k e (ap (λ x. inserting x q) (ap parted is ∙ parted_at_last q s) ∙ insert_keeps q s))

-- ---- new tables

empty_closed : IsClosed an_empty_table
empty_closed [] s none = cc
empty_closed (t ∷ a) s none = refl

one_closed : IsClosed one_empty_table
one_closed [] s none = cc
one_closed (t ∷ a) s none = by (same_step (Index 0) t) none
  where
    by : (b : Bool) → cond b (an_empty_table a) None ≡ None → cond b (an_empty_table (a ++ s ∷ [])) None ≡ None
    by true e = empty_closed a s e
    by false e = refl

section_parent : (profile : Profile) (at : Address) (old new : Kinds) → IsFault profile (new_section at) old None → Moves Some at an_empty_table old new → (q : Address) (s : Step) → at ≡ q ++ s ∷ [] → Has new q
section_parent profile at old new fault moves q s is = by (old q) refl
  where
    by : (o : Option Kind) → old q ≡ o → Has new q
    by None e = absurd (fault NoSuchPlace (q, s, is, e))
    by (Some k) e = (k, moves.carried q q k e refl)

-- an array that is made stands in a table
array_parent : (profile : Profile) (at q : Address) (i : ℕ) (old new : Kinds) → IsFault profile (new_element at) old None → at ≡ element q i → Moves Some q one_empty_table old new → (r : Address) (s : Step) → q ≡ r ++ s ∷ [] → Has new r
array_parent profile at q i old new fault is moves r (Index j) here =
    absurd (fault NotAnElement (λ p n k e. named n (same_last r p (Index j) (Name n) (sym here ∙ same_parent q (child p n) (Index i) (Index k) (sym is ∙ e)))))
  where
    named : (n : List ℕ) → ¬ (Index j ≡ Name n)
    named n e = cc
array_parent profile at q i old new fault is moves r (Name n) here = by (old r) refl
  where
    by : (o : Option Kind) → old r ≡ o → Has new r
    by None e = absurd (fault NoSuchPlace (r, n, i, is ∙ ap (λ p. element p i) here, e))
    by (Some k) e = (k, moves.carried r r k e refl)

element_closed : (profile : Profile) (at q : Address) (i : ℕ) (old new : Kinds) → IsClosed old → IsFault profile (new_element at) old None → at ≡ element q i → (o : Option Kind) → old q ≡ o → AddsElement q at o old new → IsClosed new
element_closed profile at q i old new closed fault is None here moves = moves_closed Some q one_empty_table old new moves (carried_front (new_section q)) closed one_closed (array_parent profile at q i old new fault is moves)
element_closed profile at q i old new closed fault is (Some k) here moves =
    moves_closed Some at an_empty_table old new moves (carried_front (new_section at)) closed empty_closed
    (λ r s e. (k, ap new (same_parent r q s (Index i) (sym e ∙ is)) ∙ moves.carried q q k here refl))

pub stays_closed : StaysClosed
stays_closed profile (set at value) old new closed fault after =
    moves_closed (carry_below at nowhere) at after.0 old new after.2 (below_front at nowhere nowhere_front) closed (value_closed profile value after.0 after.1) (set_parent profile at value after.0 old new closed fault after.2)
stays_closed profile (insert at value) old new closed fault after =
    moves_closed (carry (insert at value)) at after.0 old new after.2 (carried_front (insert at value)) closed (value_closed profile value after.0 after.1) (insert_parent profile at value after.0 old new fault after.2)
stays_closed profile (rename at to) old new closed fault after = moves_closed (carry (rename at to)) [] nothing old new after (carried_front (rename at to)) closed nothing_closed (no_parent new)
stays_closed profile (remove at) old new closed fault after = moves_closed (carry (remove at)) [] nothing old new after (carried_front (remove at)) closed nothing_closed (no_parent new)
stays_closed profile (new_section at) old new closed fault after = moves_closed Some at an_empty_table old new after (carried_front (new_section at)) closed empty_closed (section_parent profile at old new fault after)
stays_closed profile (new_element at) old new closed fault after = element_closed profile at after.0 after.1 old new closed fault after.2 (old after.0) refl after.3

pub leads_stay_closed : LeadsStayClosed
leads_stay_closed profile [] old new closed lead = λ at s none. sym (lead (at ++ s ∷ [])) ∙ closed at s (lead at ∙ none)
leads_stay_closed profile (c ∷ cs) old new closed (fault, mid, after, lead) = leads_stay_closed profile cs mid new (stays_closed profile c old mid closed fault after) lead
