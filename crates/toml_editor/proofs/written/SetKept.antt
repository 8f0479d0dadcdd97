-- What is kept by a `set`: the table rules, the bound on addresses, the data but at the address.
use Rattle.std.proofs.Common.{◌≡◌, ℕ, ◌+◌, ◌≤◌, Bool, true, false, cond, ◌⊎◌, inl, inr, List, [], ◌∷◌, ◌++◌, map, length, Option, Some, None, option_map, refl, sym, ap, ◌∙◌, subst, true≢false, append-nil, length-append, arith}
use Rattle.std.proofs.lemmas.Bool.{cond-true, cond-false}
use Rattle.toml_tree.specs.Spells.{EachIs}
use Rattle.toml_tree.specs.Tree.{Value, Line}
use Rattle.toml_tree.proofs.Proved.{one_value}
use Rattle.toml_names.specs.declared.mentions.mention.Role.{Role}
use Rattle.toml_names.specs.model.Addresses.{Address, IsAbove, same_address, is_above, same_step}
use Rattle.toml_names.specs.model.Data.{IsDataOf}
use Rattle.toml_names.specs.mentions.Joining.{is_lone}
use Rattle.toml_names.specs.mentions.Mentions.{Kind, Named, named, value_named, inside, value_facts}
use Rattle.toml_names.specs.mentions.Rules.{KeepsRules, IsShort, max_steps}
use Rattle.toml_names.specs.mentions.Clear.{AreValuesAt, IsClear}
use Rattle.toml_names.specs.mentions.Inside.{shifted}
use Rattle.toml_names.proofs.Proved.{inside_is_below, inside_moves, line_values_stand_alone, same_step-equal, same_step-self, value_keeps_rules}
use Rattle.toml_edits.specs.Carry.{carry_below, nowhere}
use Rattle.toml_editor.specs.SetLaws.{swapped_one, swapped, SetRules, SetShort, SetData}
use Rattle.toml_working.specs.Setting.{set_lines}
use Rattle.toml_working.specs.Premises.{HasValue}
use Rattle.toml_editor.proofs.written.Clear.{differ, above_false, above_true, IsUnder, same_is, self}
use Rattle.toml_editor.proofs.Each.{each_map, each_weaker}
use Rattle.toml_editor.proofs.written.Pairwise.{PairsAre, Goes, Alone, each_of_all, all_of_each, pairs_of_all, all_of_pairs, each_flat, pairs_flat, pairs_with, Has, has_of_any, any_of_has, has_flat, flat_has, has_weaker, has_map, map_has, all_as_one, taken}
use Rattle.toml_editor.proofs.written.SetNamed.{set_names}

-- under the rules a value at the address is the only thing there
pub values_at : (p : Address) (lines : List Line) → HasValue lines p → KeepsRules (named lines) → AreValuesAt p (named lines)
values_at p lines there keeps =
    all_as_one (λ m. m.address ≡ p) (λ m. is_lone m.role ≡ true) Alone
    (λ e l here then one alone. elim one [ inl a ↦ true≢false (sym a ∙ (alone (here ∙ sym then)).0) | inr b ↦ true≢false (sym b ∙ (alone (here ∙ sym then)).1) ])
    (named lines) (pairs_of_all Alone (named lines) (line_values_stand_alone lines keeps)) (has_of_any _ (named lines) there)

pub clear_under : (p a : Address) → IsClear p a → IsUnder p a → ⊥
clear_under p a clear ([], is) = clear.apart (sym (append-nil p) ∙ sym is)
clear_under p a clear (s ∷ r, is) = clear.not_above (s, r, is)

module _ (p : Address) (new : Value) where
  -- where what is given comes from
  abbrev Came : Named → Named → Type 0
  Came m x = ((x ≡ m) × IsClear p m.address) ⊎ ((m.address ≡ p) × IsUnder p x.address)

  abbrev pub block : ℕ → Role → List Named
  block line role = value_named line role p new ∷ inside line p new

  clear_by : (a : Address) → same_address a p ≡ false → is_above p a ≡ false → IsClear p a
  clear_by a other not = record {
    apart = λ is. true≢false (sym (subst (λ q. same_address q p ≡ true) is (self p)) ∙ other);
    not_above = λ above. true≢false (sym (above_true p a above) ∙ not);
  }

  came : (m : Named) → EachIs (Came m) (swapped_one p new m)
  came m = by (same_address m.address p) refl (is_above p m.address) refl
    where
      by : (b : Bool) → same_address m.address p ≡ b → (c : Bool) → is_above p m.address ≡ c → EachIs (Came m) (cond b (block m.line m.role) (cond c [] (m ∷ [])))
      by true same c is =
          let here = same_is m.address p same in
          (inr (here, ([], sym (append-nil p))), each_weaker (λ x. IsAbove p x.address) (Came m) (λ x above. inr (here, (above.0 ∷ above.1, above.2))) (inside m.line p new) (inside_is_below m.line new p))
      by false other true is = tt
      by false other false is = (inl (refl, clear_by m.address other is), tt)

  inside_at : (line : ℕ) → inside line p new ≡ map (shifted line p) (inside 0 [] new)
  inside_at line = ap (λ a. inside line a new) (sym (append-nil p)) ∙ inside_moves line 0 new p []

  pub block_pairs : (line : ℕ) (role : Role) → KeepsRules (value_facts new) → PairsAre Goes (block line role)
  block_pairs line role keeps = pairs_of_all Goes (block line role) (value_keeps_rules line role p new keeps)

  one_pairs : KeepsRules (value_facts new) → (m : Named) → PairsAre Goes (swapped_one p new m)
  one_pairs keeps m = by (same_address m.address p) (is_above p m.address)
    where
      by : (b c : Bool) → PairsAre Goes (cond b (block m.line m.role) (cond c [] (m ∷ [])))
      by true c = block_pairs m.line m.role keeps
      by false true = tt
      by false false = (tt, tt)

  -- two things of which one comes from each
  across : (e l x y : Named) → (e.address ≡ p → is_lone e.role ≡ true) → Goes e l → Alone e l → Came e x → Came l y → Goes x y
  across e l x y lone goes alone (inl f) (inl g) = subst (λ u. Goes u y) (sym f.0) (subst (λ u. Goes e u) (sym g.0) goes)
  across e l x y lone goes alone (inl f) (inr g) = λ same. absurd (clear_under p e.address f.1 (subst (IsUnder p) (sym same ∙ ap (λ u. u.address) f.0) g.1))
  across e l x y lone goes alone (inr f) (inl g) = λ same. absurd (clear_under p l.address g.1 (subst (IsUnder p) (same ∙ ap (λ u. u.address) g.0) f.1))
  across e l x y lone goes alone (inr f) (inr g) = λ same. absurd (true≢false (sym (lone f.0) ∙ (alone (f.0 ∙ sym g.0)).0))

  pairs_across : (e l : Named) → (e.address ≡ p → is_lone e.role ≡ true) → (l.address ≡ p → is_lone l.role ≡ true) → Goes e l → Alone e l → EachIs (λ x. EachIs (Goes x) (swapped_one p new l)) (swapped_one p new e)
  pairs_across e l lone lone' goes alone =
      each_weaker (Came e) (λ x. EachIs (Goes x) (swapped_one p new l))
      (λ x cx. each_weaker (Came l) (Goes x) (λ y cy. across e l x y lone goes alone cx cy) (swapped_one p new l) (came l))
      (swapped_one p new e) (came e)

  each_any : {P : Named → Type 0} → ((m : Named) → P m) → (ms : List Named) → EachIs P ms
  each_any f [] = tt
  each_any f (m ∷ ms) = (f m, each_any f ms)

  swapped_keeps : (ms : List Named) → AreValuesAt p ms → PairsAre Goes ms → PairsAre Alone ms → KeepsRules (value_facts new) → PairsAre Goes (swapped p new ms)
  swapped_keeps ms values goes alone keeps =
      pairs_flat Goes (swapped_one p new) ms (each_any (one_pairs keeps) ms)
      (pairs_with (λ m. m.address ≡ p → is_lone m.role ≡ true) Goes Alone _ pairs_across ms values goes alone)

  -- ---- short

  abbrev pub ShortAt : Named → Type 0
  ShortAt m = length p + length m.address ≤ max_steps

  pub block_short : (line : ℕ) (role : Role) → EachIs ShortAt (value_facts new) → EachIs (λ m. length m.address ≤ max_steps) (block line role)
  block_short line role short = (
    (let first = short.0 in omega (arith, first)),
    subst (EachIs (λ m. length m.address ≤ max_steps)) (sym (inside_at line))
        (each_map (λ m. length m.address ≤ max_steps) (shifted line p) (inside 0 [] new) (each_weaker ShortAt (λ m. length (p ++ m.address) ≤ max_steps) (λ m low. omega (arith, low, length-append p m.address)) (inside 0 [] new) short.1)),
  )

  one_short : EachIs ShortAt (value_facts new) → (m : Named) → length m.address ≤ max_steps → EachIs (λ m. length m.address ≤ max_steps) (swapped_one p new m)
  one_short short m low = by (same_address m.address p) (is_above p m.address)
    where
      by : (b c : Bool) → EachIs (λ m. length m.address ≤ max_steps) (cond b (block m.line m.role) (cond c [] (m ∷ [])))
      by true c = block_short m.line m.role short
      by false true = tt
      by false false = (low, tt)

  swapped_short : (ms : List Named) → EachIs ShortAt (value_facts new) → EachIs (λ m. length m.address ≤ max_steps) ms → EachIs (λ m. length m.address ≤ max_steps) (swapped p new ms)
  swapped_short ms short low = each_flat _ (swapped_one p new) ms (each_weaker _ (λ m. EachIs (λ x. length x.address ≤ max_steps) (swapped_one p new m)) (one_short short) ms low)

  -- ---- facts

  abbrev pub F : Address → Kind → Named → Type 0
  F at k m = (m.address ≡ at) × (m.kind ≡ k)

  one_kept : (m : Named) → IsClear p m.address → swapped_one p new m ≡ m ∷ []
  one_kept m clear = cond-false _ _ _ (differ m.address p (λ is. clear.apart (sym is))) ∙ cond-false _ _ _ (above_false p m.address clear.not_above)

  one_new : (m : Named) → m.address ≡ p → swapped_one p new m ≡ block m.line m.role
  one_new m is = cond-true _ _ _ (subst (λ a. same_address a p ≡ true) (sym is) (self p))

  fact_kept : (ms : List Named) (at : Address) (k : Kind) → IsClear p at → Has (F at k) ms → Has (F at k) (swapped p new ms)
  fact_kept ms at k clear h =
      has_flat (F at k) (swapped_one p new) ms
      (has_weaker (F at k) (λ m. Has (F at k) (swapped_one p new m)) (λ m f. subst (Has (F at k)) (sym (one_kept m (subst (IsClear p) (sym f.0) clear))) (inl f)) ms h)

  pub in_block : (line : ℕ) (role : Role) (r : Address) (k : Kind) → Has (F r k) (value_facts new) → Has (F (p ++ r) k) (block line role)
  in_block line role r k (inl f) = inl (sym (append-nil p) ∙ ap (λ a. p ++ a) f.0, f.1)
  in_block line role r k (inr h) =
      inr (subst (Has (F (p ++ r) k)) (sym (inside_at line)) (has_map (F (p ++ r) k) (shifted line p) (inside 0 [] new) (has_weaker (F r k) (λ m. F (p ++ r) k (shifted line p m)) (λ m f. (ap (λ a. p ++ a) f.0, f.1)) (inside 0 [] new) h)))

  fact_placed : (ms : List Named) (r : Address) (k : Kind) → Has (λ m. (m.address ≡ p) × (is_lone m.role ≡ true)) ms → Has (F r k) (value_facts new) → Has (F (p ++ r) k) (swapped p new ms)
  fact_placed ms r k there h =
      has_flat (F (p ++ r) k) (swapped_one p new) ms
      (has_weaker _ (λ m. Has (F (p ++ r) k) (swapped_one p new m)) (λ m here. subst (Has (F (p ++ r) k)) (sym (one_new m here.0)) (in_block m.line m.role r k h)) ms there)

  -- a fact of the block is one of the value
  abbrev pub IsPlaced : Address → Kind → Type 0
  IsPlaced at k = (r : Address) × (at ≡ p ++ r) × Has (F r k) (value_facts new)

  pub of_block : (line : ℕ) (role : Role) (at : Address) (k : Kind) → Has (F at k) (block line role) → IsPlaced at k
  of_block line role at k (inl f) = ([], sym f.0 ∙ sym (append-nil p), inl (refl, f.1))
  of_block line role at k (inr h) =
      taken (λ m. F at k (shifted line p m)) (IsPlaced at k) (inside 0 [] new)
      (λ x there f. (x.address, sym f.0, inr (has_weaker (λ y. y ≡ x) (F x.address k) (λ y is. (ap (λ u. u.address) is, ap (λ u. u.kind) is ∙ f.1)) (inside 0 [] new) there)))
      (map_has (F at k) (shifted line p) (inside 0 [] new) (subst (Has (F at k)) (inside_at line) h))

  fact_from : (ms : List Named) (at : Address) (k : Kind) → Has (F at k) (swapped p new ms) → (IsClear p at × Has (F at k) ms) ⊎ IsPlaced at k
  fact_from ms at k h =
      taken (λ m. Has (F at k) (swapped_one p new m)) _ ms
      (λ m there here. by m there (same_address m.address p) refl (is_above p m.address) refl here)
      (flat_has (F at k) (swapped_one p new) ms h)
    where
      by : (m : Named) → Has (λ y. y ≡ m) ms → (b : Bool) → same_address m.address p ≡ b → (c : Bool) → is_above p m.address ≡ c → Has (F at k) (cond b (block m.line m.role) (cond c [] (m ∷ []))) → (IsClear p at × Has (F at k) ms) ⊎ IsPlaced at k
      by m there true same c is here = inr (of_block m.line m.role at k here)
      by m there false other true is here = absurd here
      by m there false other false is (inl f) =
          inl (subst (IsClear p) f.0 (clear_by m.address other is), has_weaker (λ y. y ≡ m) (F at k) (λ y e. (ap (λ u. u.address) e ∙ f.0, ap (λ u. u.kind) e ∙ f.1)) ms there)
      by m there false other false is (inr h) = absurd h

-- ---- the carrier

pub carried_clear : (p b a : Address) → carry_below p nowhere b ≡ Some a → (a ≡ b) × IsClear p b
carried_clear [] b a is = cc
carried_clear (s ∷ p) [] a is = (cc, record { apart = λ e. cc; not_above = λ above. let e = above.2 in cc })
carried_clear (s ∷ p) (t ∷ b) a is = by (λ r go. carried_clear p b r go) (same_step s t) refl (carry_below p nowhere b) refl is
  where
    by : ((r : Address) → carry_below p nowhere b ≡ Some r → (r ≡ b) × IsClear p b) → (c : Bool) → same_step s t ≡ c → (o : Option Address) → carry_below p nowhere b ≡ o → cond c (option_map (λ r. t ∷ r) o) (Some (t ∷ b)) ≡ Some a → (a ≡ t ∷ b) × IsClear (s ∷ p) (t ∷ b)
    by more true same None go is = cc
    by more true same (Some r) go is =
        let rest = more r go in
        let e : a ≡ t ∷ r = cc in
        (e ∙ ap (λ l. t ∷ l) rest.0, record { apart = λ w. let u : p ≡ b = cc in rest.1.apart u; not_above = λ above. let w = above.2 in let u : b ≡ p ++ above.0 ∷ above.1 = cc in rest.1.not_above (above.0, above.1, u) })
    by more false other o go is =
        (cc, record { apart = λ w. let u : s ≡ t = cc in diff u; not_above = λ above. let w = above.2 in let u : s ≡ t = cc in diff u })
      where
        diff : s ≡ t → ⊥
        diff u = true≢false (sym (subst (λ x. same_step s x ≡ true) u (same_step-self s)) ∙ other)

pub clear_carried : (p a : Address) → IsClear p a → carry_below p nowhere a ≡ Some a
clear_carried [] [] clear = absurd (clear.apart refl)
clear_carried [] (t ∷ a) clear = absurd (clear.not_above (t, a, refl))
clear_carried (s ∷ p) [] clear = refl
clear_carried (s ∷ p) (t ∷ a) clear = by (λ c. clear_carried p a c) (same_step s t) refl
  where
    by : (IsClear p a → carry_below p nowhere a ≡ Some a) → (c : Bool) → same_step s t ≡ c → cond c (option_map (λ r. t ∷ r) (carry_below p nowhere a)) (Some (t ∷ a)) ≡ Some (t ∷ a)
    by more true same =
        let is : s ≡ t = same_step-equal s t same in
        ap (option_map (λ r. t ∷ r)) (more (record {
          apart = λ e. clear.apart (ap (λ u. u ∷ p) is ∙ ap (λ l. t ∷ l) e);
          not_above = λ above. clear.not_above (above.0, above.1, ap (λ u. u ∷ a) (sym is) ∙ ap (λ l. s ∷ l) above.2);
        }))
    by more false other = refl

-- ---- the laws

pub set_rules : SetRules
set_rules p new lines apart there keeps good =
    let values = values_at p lines there keeps in
    subst KeepsRules (sym (set_names p new lines apart values))
    (all_of_pairs Goes (swapped p new (named lines))
    (swapped_keeps p new (named lines) values (pairs_of_all Goes (named lines) keeps) (pairs_of_all Alone (named lines) (line_values_stand_alone lines keeps)) good))

pub set_short : SetShort
set_short p new lines apart there good short =
    let values = values_at p lines there good.0 in
    subst IsShort (sym (set_names p new lines apart values))
    (all_of_each _ (swapped p new (named lines)) (swapped_short p new (named lines) (each_of_all _ (value_facts new) short) (each_of_all _ (named lines) good.1)))

pub set_data : SetData
set_data profile p text new lines v old after apart there keeps value good is is' =
    let values = values_at p lines there keeps in
    let names = set_names p new lines apart values in
    let same : good.value.tree ≡ new = one_value good.value.tree new 0 text good.value.is_value.0 value.0 in
    let facts : IsDataOf (value_facts new) v = subst (λ t. IsDataOf (value_facts t) v) same good.facts in
    let shown : (a : Address) (k : Kind) → Has (F p new a k) (swapped p new (named lines)) → after a ≡ Some k = λ a k h. (is' a k).1 (any_of_has _ (named (set_lines p new lines)) (subst (Has (F p new a k)) (sym names) h)) in (
      v,
      good,
      record {
        carried = λ a b k have to.
            let go = carried_clear p b a to in
            shown a k (fact_kept p new (named lines) a k (subst (IsClear p) (sym go.0) go.1) (has_of_any _ (named lines) ((is a k).0 (ap old go.0 ∙ have))));
        placed = λ r k have. shown (p ++ r) k (fact_placed p new (named lines) r k (has_of_any _ (named lines) there) (has_of_any _ (value_facts new) ((facts r k).0 have)));
        no_other = λ a k have.
            elim (fact_from p new (named lines) a k (subst (Has (F p new a k)) names (has_of_any _ (named (set_lines p new lines)) ((is' a k).0 have)))) [
              | inl w ↦ inl (a, (is a k).1 (any_of_has _ (named lines) w.1), clear_carried p a w.0)
              | inr w ↦ inr (w.0, w.1, (facts w.0 k).1 (any_of_has _ (value_facts new) w.2))
            ];
      },
    )
