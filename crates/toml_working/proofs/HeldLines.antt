-- Something is put into the value of a line, or taken out of one: what the tree then stands for.
use Rattle.std.proofs.Common.{◌≡◌, ◌∙◌, ◌<◌, ℕ, zero, suc, Bool, true, false, ◌&&◌, ◌||◌, List, [], ◌∷◌, ◌++◌, drop, length, All, Option, Some, None, refl, ap, ap₂, sym, subst, arith}
use Rattle.std.proofs.Math.Bool.{or-false}
use Rattle.std.proofs.lemmas.Bool.Decides.{nat_tests}
use Rattle.std.proofs.lemmas.List.Folds.{list_any-append}
use Rattle.std.specs.Bool.{nat_lt}
use Rattle.std.specs.List.{list_any}
use Rattle.std.proofs.lemmas.Bool.{and_parts, true≢false}
use Rattle.toml_names.specs.declared.model.address.Step.{Step}
use Rattle.toml_names.specs.model.Addresses.{Address, same_step}
use Rattle.toml_text.specs.Source.{text_of}
use Rattle.toml_layout.specs.declared.changing.Inside.{Inside}
use Rattle.toml_layout.specs.declared.texts.Texts.{Texts}
use Rattle.toml_layout.specs.Beginnings.{begins}
use Rattle.toml_layout.specs.Holding.{HolderChange}
use Rattle.toml_layout.specs.OpenOutlines.{value}
use Rattle.toml_layout.specs.Holders.{has_holder}
use Rattle.toml_layout.specs.Outlines.{Braced, ExprOutline, Header, Listed, Nothing, Pair, Token, ValueOutline}
use Rattle.toml_working.specs.declared.lines.Slot.{Slot}
use Rattle.toml_working.specs.declared.working.Position.{Position}
use Rattle.toml_working.specs.Changing.{ChangesAs, ChangesSlots, HoldsStanding, SetsThere}
use Rattle.toml_working.specs.declared.lines.Sought.TheVariants as sought
use Rattle.toml_working.specs.HeldLines.{HeldIsInside, HoldsLines, ParentIsHeld, SetsEach, expr_has_container, has_container_at, holds_inside}
use Rattle.toml_working.specs.Seeing.{HoldsNone, IsSoughtAt, line_at, steps_of, steps_to}
use Rattle.toml_working.specs.Standing.{Standing, Read, AreOrdered, IsApart, StandAlone, holds, leads_to, slot_standing, slots_standing}
use Rattle.toml_working.specs.Stands.{Stands}
use Rattle.toml_working.proofs.Alone.{item_split, slot_split, split_within}
use Rattle.toml_working.proofs.AtPlace.{holder_at}
use Rattle.toml_working.proofs.Pairwise.{pairs_of_all}
use Rattle.toml_working.proofs.SetAway.{one_is_apart, one_is_set, others_before}

-- what is set on the one line that holds it is set on all lines
each_is_set : (p : Address) (new : ValueOutline) (front : List Standing) (s t : Standing) (back : List Standing) → StandAlone (front ++ s ∷ back)
    → IsApart s.outline.expr → SetsThere p new s t true → SetsEach p new (front ++ s ∷ back) (front ++ t ∷ back) true
each_is_set p new front s t back alone apart (here, sets) =
    let one = one_is_set p new front s back here alone in
    let set_to = sets apart here in
    (ap (λ x. front ++ x ∷ back) set_to.0 ∙ sym one.0, set_to.1 ∙ sym one.1)

-- of lines that stand alone one holds what stands at the address, so what is told of it is told of all
held_on_one : (p : Address) (front : List Standing) (s : Standing) (back : List Standing) → holds p s ≡ true → StandAlone (front ++ s ∷ back)
    → list_any (has_container_at p) (front ++ s ∷ back) ≡ has_container_at p s
held_on_one p front s back here alone =
    let others = others_before p front s back here (pairs_of_all _ (front ++ s ∷ back) alone) in
    list_any-append (has_container_at p) front (s ∷ back)
    ∙ ap₂ (λ a b. a || (has_container_at p s || b)) (none_held p front others.0) (none_held p back others.1) ∙ or-false (has_container_at p s)
  where
    none_held : (q : Address) (ts : List Standing) → list_any (holds q) ts ≡ false → list_any (has_container_at q) ts ≡ false
    none_held q [] none = refl
    none_held q (t ∷ ts) none = by (none_held q ts) (holds q t) refl none
      where
        by : (list_any (holds q) ts ≡ false → list_any (has_container_at q) ts ≡ false) → (b : Bool) → holds q t ≡ b → (b || list_any (holds q) ts) ≡ false
            → list_any (has_container_at q) (t ∷ ts) ≡ false
        by later true is h = absurd (true≢false h)
        by later false is h = ap (λ b. (b && expr_has_container t.outline.expr (drop (steps_to t.address) q)) || list_any (has_container_at q) ts) is ∙ later h

-- one line holds what stands at the address, and is changed
pub line_held : (p : Address) (change : Inside) (makes : HolderChange) (texts : Texts) (read : Read) (at : Position) (old now : List Slot) (done : Bool) (s : Standing)
    → line_at read old at ≡ Some s → holds p s ≡ true
    → ((x y : Standing) → ChangesAs texts.layout p change x y done → HoldsStanding p makes x y done)
    → ChangesSlots texts read at p change old now done → (ss : List Standing) → Stands (text_of texts.source) read old ss → AreOrdered ss
    → HoldsLines p makes (text_of texts.source) read old now ss done
line_held p change makes texts read at old now done s there here as_holder changed ss stands ordered =
    let (kept, changes_at) = changed stands.kept in
    let (front, back, t, was, is, as_is) = changes_at s there in
    let all : ss ≡ front ++ s ∷ back = sym stands.are ∙ was in
    let alone = subst (λ xs. StandAlone xs) all ordered.alone in
    let apart = one_is_apart front s back (subst (λ xs. All (λ (x : Standing). IsApart x.outline.expr) xs) all ordered.apart) in
    let on_line = as_holder s t as_is.1 in
    record {
      made = λ made. let held = on_line.made here made in (
        front ++ t ∷ back,
        record { kept = kept; are = is },
        record {
          to = held.to;
          rest = held.rest;
          split = held.split;
          was = held.was;
          other = held.other;
          stood = subst (λ xs. SetsEach held.to (value held.was) xs xs true) (sym all) (each_is_set held.to (value held.was) front s s back alone apart held.stood);
          stands = subst (λ xs. SetsEach held.to (value held.other) xs (front ++ t ∷ back) true) (sym all)
              (each_is_set held.to (value held.other) front s t back alone apart held.stands);
          made = held.made;
        },
      );
      stays = λ not. record { kept = kept; are = is ∙ ap (λ x. front ++ x ∷ back) (on_line.stays not) ∙ sym all };
      tells = on_line.tells apart here ∙ sym (ap (λ xs. list_any (has_container_at p) xs) all ∙ held_on_one p front s back here alone);
    }

-- ---- what stands in the value of a line has a parent there

none_at_all : (v : ValueOutline) → has_holder v [] ≡ false
none_at_all (Token text) = refl
none_at_all (Listed opening es) = refl
none_at_all (Braced opening es) = refl

no_steps_held : (e : ExprOutline) → expr_has_container e [] ≡ false
no_steps_held Nothing = refl
no_steps_held (Pair a v) = none_at_all v
no_steps_held (Header opening before first rest after closing) = refl

begins_parent : (a q : Address) (last : Step) (e : ExprOutline) → begins a (q ++ last ∷ []) ≡ true
    → expr_has_container e (drop (length a) (q ++ last ∷ [])) ≡ true → begins a q ≡ true
begins_parent [] q last e h held = refl
begins_parent (s ∷ []) [] last e h held = absurd (true≢false (sym held ∙ no_steps_held e))
begins_parent (s ∷ t ∷ a) [] last e h held = let (here, behind) = and_parts (same_step s last) (begins (t ∷ a) []) h in absurd (true≢false (sym behind))
begins_parent (s ∷ a) (t ∷ q) last e h held =
    let (here, behind) = and_parts (same_step s t) (begins a (q ++ last ∷ [])) h in
    ap (λ b. b && begins a q) here ∙ begins_parent a q last e behind held

parent_on : (q : Address) (last : Step) (base : Option ℕ) (own : Option Address) (e : ExprOutline) → leads_to (q ++ last ∷ []) base own ≡ true
    → expr_has_container e (drop (steps_to own) (q ++ last ∷ [])) ≡ true → leads_to q base own ≡ true
parent_on q last None own e h held = absurd (true≢false (sym h))
parent_on q last (Some n) None e h held = absurd (true≢false (sym h))
parent_on q last (Some n) (Some a) e h held = begins_parent a q last e h held

or-true : (b : Bool) → (b || true) ≡ true
or-true true = refl
or-true false = refl

pub any_weaker : {A : Type 0} (f g : A → Bool) → ((x : A) → f x ≡ true → g x ≡ true) → (xs : List A) → list_any f xs ≡ true → list_any g xs ≡ true
any_weaker f g more [] h = h
any_weaker f g more (x ∷ xs) h = by (any_weaker f g more xs) (f x) refl h
  where
    by : (list_any f xs ≡ true → list_any g xs ≡ true) → (b : Bool) → f x ≡ b → (b || list_any f xs) ≡ true → list_any g (x ∷ xs) ≡ true
    by behind true is there = ap (λ c. c || list_any g xs) (more x is)
    by behind false is there = ap (λ c. g x || c) (behind there) ∙ or-true (g x)

-- where an array or an inline table in the value of a line holds it, that value holds its parent
pub parent_held : ParentIsHeld
parent_held q last ss = any_weaker (has_container_at (q ++ last ∷ [])) (holds q)
    (λ s h. let (leads, held) = and_parts (holds (q ++ last ∷ []) s) (expr_has_container s.outline.expr (drop (steps_to s.address) (q ++ last ∷ []))) h in
    parent_on q last s.base s.address s.outline.expr leads held) ss

-- what holds the parent holds what stands in it
begins_longer : (a q : Address) (last : Step) → begins a q ≡ true → begins a (q ++ last ∷ []) ≡ true
begins_longer [] q last h = refl
begins_longer (s ∷ a) [] last h = absurd (true≢false (sym h))
begins_longer (s ∷ a) (t ∷ q) last h =
    let (here, behind) = and_parts (same_step s t) (begins a q) h in
    ap (λ b. b && begins a (q ++ last ∷ [])) here ∙ begins_longer a q last behind

leads_longer : (q : Address) (last : Step) (base : Option ℕ) (own : Option Address) → leads_to q base own ≡ true → leads_to (q ++ last ∷ []) base own ≡ true
leads_longer q last None own h = absurd (true≢false (sym h))
leads_longer q last (Some n) None h = absurd (true≢false (sym h))
leads_longer q last (Some n) (Some a) h = begins_longer a q last h

pub child_held : (q : Address) (last : Step) (s : Standing) → holds q s ≡ true → holds (q ++ last ∷ []) s ≡ true
child_held q last s h = leads_longer q last s.base s.address h

-- where no line holds an address none is found that does
pub not_held : (q : Address) (text : List ℕ) (read : Read) (slots : List Slot) (ss : List Standing) → HoldsNone q read.units slots → ¬ (q ≡ [])
    → Stands text read slots ss → AreOrdered ss → list_any (holds q) ss ≡ true → ⊥
not_held q text read slots ss none not_root stands ordered there =
    let all = none not_root read.lines (subst (λ xs. StandAlone xs) (sym stands.are) ordered.alone) in
    true≢false (sym there ∙ subst (λ xs. list_any (holds q) xs ≡ false) stands.are all)

some_steps : (n : ℕ) (p : Address) (e : ExprOutline) → expr_has_container e (drop n p) ≡ true → n < length p
some_steps zero [] e held = absurd (true≢false (sym held ∙ no_steps_held e))
some_steps (suc n) [] e held = absurd (true≢false (sym held ∙ no_steps_held e))
some_steps zero (s ∷ p) e held = omega arith
some_steps (suc n) (s ∷ p) e held = let few = some_steps n p e held in omega (arith, few)

pub steps_left : (p : Address) (s : Standing) → has_container_at p s ≡ true → (holds p s ≡ true) × (steps_to s.address < length p)
steps_left p s h =
    let (leads, held) = and_parts (holds p s) (expr_has_container s.outline.expr (drop (steps_to s.address) p)) h in
    (leads, some_steps (steps_to s.address) p s.outline.expr held)

held_in_value : (p : Address) (s : Standing) → has_container_at p s ≡ true → holds_inside p s ≡ true
held_in_value p s h =
    let (leads, few) = steps_left p s h in
    let low : nat_lt (steps_to s.address) (length p) ≡ true = grind (arith, nat_tests, few) in
    ap₂ (λ a b. a && b) leads low

none_at_root : (ss : List Standing) → list_any (has_container_at []) ss ≡ true → ⊥
none_at_root [] h = true≢false (sym h)
none_at_root (s ∷ ss) h = by (none_at_root ss) (has_container_at [] s) refl h
  where
    by : (list_any (has_container_at []) ss ≡ true → ⊥) → (b : Bool) → has_container_at [] s ≡ b → (b || list_any (has_container_at []) ss) ≡ true → ⊥
    by behind true is there = let (leads, few) = steps_left [] s is in absurd (omega (arith, few))
    by behind false is there = behind there

pub held_inside : HeldIsInside
held_inside p ss there = (
  (λ is. none_at_root ss (subst (λ a. list_any (has_container_at a) ss ≡ true) is there)),
  any_weaker (has_container_at p) (holds_inside p) (held_in_value p) ss there,
)

-- ---- a line whose value holds the address

none_inside : (p : Address) (ts : List Standing) → list_any (holds p) ts ≡ false → list_any (holds_inside p) ts ≡ false
none_inside p [] none = refl
none_inside p (t ∷ ts) none = by (none_inside p ts) (holds p t) refl none
  where
    by : (list_any (holds p) ts ≡ false → list_any (holds_inside p) ts ≡ false) → (b : Bool) → holds p t ≡ b → (b || list_any (holds p) ts) ≡ false
        → list_any (holds_inside p) (t ∷ ts) ≡ false
    by later true is h = absurd (true≢false h)
    by later false is h = ap (λ b. (b && nat_lt (steps_to t.address) (length p)) || list_any (holds_inside p) ts) is ∙ later h

-- of lines that stand alone it is the one that holds the address
inside_here : (p : Address) (front : List Standing) (s : Standing) (back : List Standing) → holds p s ≡ true → StandAlone (front ++ s ∷ back)
    → list_any (holds_inside p) (front ++ s ∷ back) ≡ true → holds_inside p s ≡ true
inside_here p front s back here alone there =
    let others = others_before p front s back here (pairs_of_all _ (front ++ s ∷ back) alone) in
    sym (list_any-append (holds_inside p) front (s ∷ back)
    ∙ ap₂ (λ a b. a || (holds_inside p s || b)) (none_inside p front others.0) (none_inside p back others.1) ∙ or-false (holds_inside p s)) ∙ there

-- so a line that is found has fewer steps than the address
pub fewer_steps : (p : Address) (text : List ℕ) (read : Read) (slots : List Slot) (at : Position) (ss : List Standing) → IsSoughtAt sought.Holder p read slots at
    → Stands text read slots ss → AreOrdered ss → list_any (holds_inside p) ss ≡ true → steps_of (line_at read slots at) < length p
fewer_steps p text read slots at ss found stands ordered there =
    let (slot, s, slot_is, placed, line_is, leads) = holder_at read slots at p found in
    let (before, behind, split, set_to) = slot_split read slots at.slot slot slot_is in
    let (front, back, own, new) = item_split (slot_standing read slot) at.index s line_is in
    let all = sym stands.are ∙ split_within before front s back behind (slot_standing read slot) (slots_standing read slots) split own in
    let inside = inside_here p (before ++ front) s (back ++ behind) leads (subst (λ xs. StandAlone xs) all ordered.alone)
    (subst (λ xs. list_any (holds_inside p) xs ≡ true) all there) in
    let (_, low) = and_parts (holds p s) (nat_lt (steps_to s.address) (length p)) inside in
    let few : steps_to s.address < length p = grind (arith, nat_tests) in
    subst (λ n. n < length p) (sym (ap steps_of placed)) few

-- and lines hold the address
pub held_there : (p : Address) (text : List ℕ) (read : Read) (slots : List Slot) (at : Position) (ss : List Standing) → IsSoughtAt sought.Holder p read slots at
    → Stands text read slots ss → list_any (holds p) ss ≡ true
held_there p text read slots at ss found stands =
    let (slot, s, slot_is, placed, line_is, leads) = holder_at read slots at p found in
    let (before, behind, split, set_to) = slot_split read slots at.slot slot slot_is in
    let (front, back, own, new) = item_split (slot_standing read slot) at.index s line_is in
    ap (list_any (holds p)) (sym stands.are ∙ split_within before front s back behind (slot_standing read slot) (slots_standing read slots) split own)
    ∙ list_any-append (holds p) (before ++ front) (s ∷ back ++ behind)
    ∙ ap (λ b. list_any (holds p) (before ++ front) || (b || list_any (holds p) (back ++ behind))) leads
    ∙ or-true (list_any (holds p) (before ++ front))

-- where no line holds an address none has it in its value
pub not_inside : (p : Address) (text : List ℕ) (read : Read) (slots : List Slot) (ss : List Standing) → HoldsNone p read.units slots → ¬ (p ≡ [])
    → Stands text read slots ss → AreOrdered ss → list_any (holds_inside p) ss ≡ true → ⊥
not_inside p text read slots ss none not_root stands ordered there =
    let all = none not_root read.lines (subst (λ xs. StandAlone xs) (sym stands.are) ordered.alone) in
    true≢false (sym there ∙ none_inside p ss (subst (λ xs. list_any (holds p) xs ≡ false) stands.are all))
