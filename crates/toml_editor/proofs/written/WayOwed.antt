-- What one edit owes, and what it writes, through the edits that follow.
use Rattle.std.proofs.Common.{◌≡◌, ◌⊎◌, inl, inr, ℕ, true, false, Option, Some, None, option_map, option_and_then, List, [], ◌∷◌, ◌++◌, refl, sym, ap, ◌∙◌, subst, true≢false}
use Rattle.std.specs.Prelude.{not, Contains}
use Rattle.std.proofs.lemmas.Bool.{and_parts}
use Rattle.std.proofs.lemmas.Option.{same_Some}
use Rattle.toml_names.specs.model.Addresses.{Address, IsAbove}
use Rattle.toml_edits.specs.Carry.{carry}
use Rattle.toml_edits.specs.Edits.{Change, set, insert, rename, remove, new_section, new_element, place}
use Rattle.toml_edits.specs.Laws.{IsNotSet}
use Rattle.toml_edits.specs.Lists.{carried}
use Rattle.toml_edits.proofs.Proved.{carried_along, carried_front, sides_are_right}
use Rattle.toml_units.specs.Units.{TextUnit}
use Rattle.toml_edits.specs.declared.side.Side.TheVariants as sides
use Rattle.toml_checker.specs.declared.tables.Part.{Part}
use Rattle.toml_checker.specs.declared.tables.Part.TheVariants as parts
use Rattle.toml_checker.specs.CarriedTo.{IsAtOrAbove, IsCarriedTo, At}
use Rattle.toml_checker.specs.Comments.{IsWritten}
use Rattle.toml_checker.specs.Owed.{result, Owes, IsOwed}
use Rattle.toml_checker.specs.Plain.{stands, is_named}
use Rattle.toml_edits.specs.Sides.{side}

-- what holds of an address holds of itself, where no edit carries it
pub at_itself : (P : Address → Type 0) (r q : Address) → carried [] r ≡ Some q → P q → P r
at_itself P r q same = subst P (sym (same_Some r q same))

-- ---- along a list of edits

-- what has a value of its own: a line with a key, or a pair, and an element
abbrev pub HoldsValue : Part → Option ℕ → Type 0
HoldsValue parts.Line (Some n) = Unit {0}
HoldsValue parts.Element base = Unit {0}
HoldsValue _ _ = ⊥

-- an edit that does not name it is not below its address, and does not set it
below_named : (part : Part) (base : Option ℕ) → HoldsValue part base → (c : Change) → not (is_named part c base sides.Below) ≡ false
below_named parts.Line None holds c = absurd holds
below_named parts.Home base holds c = absurd holds
below_named parts.Comment base holds c = absurd holds
below_named parts.Line (Some n) holds (set p text) = refl
below_named parts.Line (Some n) holds (insert p text) = refl
below_named parts.Line (Some n) holds (rename p to) = refl
below_named parts.Line (Some n) holds (remove p) = refl
below_named parts.Line (Some n) holds (new_section p) = refl
below_named parts.Line (Some n) holds (new_element p) = refl
below_named parts.Element base holds (set p text) = refl
below_named parts.Element base holds (insert p text) = refl
below_named parts.Element base holds (rename p to) = refl
below_named parts.Element base holds (remove p) = refl
below_named parts.Element base holds (new_section p) = refl
below_named parts.Element base holds (new_element p) = refl

set_named : (part : Part) (base : Option ℕ) → HoldsValue part base → (p : Address) (text : List ℕ)
    → not (is_named part (set p text) base sides.At) ≡ false
set_named parts.Line None holds p text = absurd holds
set_named parts.Home base holds p text = absurd holds
set_named parts.Comment base holds p text = absurd holds
set_named parts.Line (Some n) holds p text = refl
set_named parts.Element base holds p text = refl

module _ (part : Part) (base : Option ℕ) (holds : HoldsValue part base) where
  abbrev IsUnnamed : Change → Address → Type 0
  IsUnnamed c a = not (is_named part c base (side (place c) a)) ≡ true

  not_below : (c : Change) (a : Address) → IsUnnamed c a → ¬ IsAbove a (place c)
  not_below c a unnamed above = true≢false
      (sym unnamed ∙ ap (λ s. not (is_named part c base s)) ((sides_are_right (place c) a).below.1 above) ∙ below_named part base holds c)

  not_set : (c : Change) (a : Address) → IsUnnamed c a → IsNotSet c a
  not_set (set p text) a unnamed = λ is. true≢false
      (sym unnamed ∙ ap (λ s. not (is_named part (set p text) base s)) ((sides_are_right p a).at.1 is) ∙ set_named part base holds p text)
  not_set (insert p text) a unnamed = tt
  not_set (rename p to) a unnamed = tt
  not_set (remove p) a unnamed = tt
  not_set (new_section p) a unnamed = tt
  not_set (new_element p) a unnamed = tt

  -- what is below it goes along with it, where no edit names it
  pub along : (cs : List Change) (a rest : Address) → stands part cs (Some a) base ≡ true
      → carried cs (a ++ rest) ≡ option_map (λ b. b ++ rest) (carried cs a)
  along [] a rest kept = refl
  along (c ∷ cs) a rest kept =
      let (first, others) = and_parts (not (is_named part c base (side (place c) a))) (stands part cs (carry c a) base) kept in
      ap (option_and_then (carried cs)) (carried_along c a rest (not_below c a first) (not_set c a first))
      ∙ on (λ b k. along cs b rest k) (carry c a) others
    where
      on : ((b : Address) → stands part cs (Some b) base ≡ true → carried cs (b ++ rest) ≡ option_map (λ x. x ++ rest) (carried cs b))
          → (o : Option Address) → stands part cs o base ≡ true
          → option_and_then (carried cs) (option_map (λ x. x ++ rest) o) ≡ option_map (λ x. x ++ rest) (option_and_then (carried cs) o)
      on more None k = refl
      on more (Some b) k = more b k

-- a beginning of what is carried is carried to a beginning
pub front : (cs : List Change) (a r b : Address) → carried cs (a ++ r) ≡ Some b → (to rest : Address) × (carried cs a ≡ Some to)
    × (b ≡ to ++ rest)
front [] a r b is = (a, r, refl, sym (same_Some (a ++ r) b is))
front (c ∷ cs) a r b is = by (λ x y k. front cs x y b k) (carry c (a ++ r)) refl is
  where
    by : ((x y : Address) → carried cs (x ++ y) ≡ Some b → (to rest : Address) × (carried cs x ≡ Some to) × (b ≡ to ++ rest))
        → (o : Option Address) → carry c (a ++ r) ≡ o → option_and_then (carried cs) o ≡ Some b → (to rest : Address)
        × (carried (c ∷ cs) a ≡ Some to) × (b ≡ to ++ rest)
    by more None e k = cc
    by more (Some x) e k =
        let f = carried_front c a r x e in
        let g = more f.to f.rest (subst (λ y. carried cs y ≡ Some b) f.whole k) in
        (g.0, g.1, ap (option_and_then (carried cs)) f.carried ∙ g.2, g.3)

pub at_front : (cs : List Change) (p a b : Address) → carried cs a ≡ Some b → IsAtOrAbove p a → (to : Address) × (carried cs p ≡ Some to)
    × IsAtOrAbove to b
at_front cs p a b goes (rest, is) = let f = front cs p rest b (subst (λ x. carried cs x ≡ Some b) is goes) in (f.0, f.2, (f.1, f.3))

-- ---- what is owed

-- at or below the result of an edit that is no removal: what an edit owes of lines of headers
abbrev pub OwesBelow : Change → Address → Address → Type 0
OwesBelow (remove p) r a = ⊥
OwesBelow _ r a = IsAtOrAbove r a

abbrev pub IsOwedBelow : List Change → Address → Type 0
IsOwedBelow [] a = ⊥
IsOwedBelow (c ∷ cs) a = ((r to : Address) × (result c ≡ Some r) × (carried cs r ≡ Some to) × OwesBelow c to a) ⊎ IsOwedBelow cs a

owes_of : (c : Change) (r a : Address) → OwesBelow c r a → Owes c r a
owes_of (set p text) r a is = inr is
owes_of (insert p text) r a is = inr is
owes_of (rename p to) r a is = inr is
owes_of (remove p) r a is = absurd is
owes_of (new_section p) r a is = inr is
owes_of (new_element p) r a is = inr is

pub owed_below : (cs : List Change) (a : Address) → IsOwedBelow cs a → IsOwed cs a
owed_below [] a is = is
owed_below (c ∷ cs) a (inl (r, to, is, goes, owes)) = inl (r, to, is, goes, owes_of c to a owes)
owed_below (c ∷ cs) a (inr more) = inr (owed_below cs a more)

which : (c : Change) (r a : Address) → Owes c r a → IsAtOrAbove a r ⊎ IsAtOrAbove r a
which (set p text) r a is = is
which (insert p text) r a is = is
which (rename p to) r a is = is
which (remove p) r a is = inl is
which (new_section p) r a is = is
which (new_element p) r a is = is

owes_on : (c : Change) (r a to b : Address) → (IsAtOrAbove a r → IsAtOrAbove b to) → (IsAtOrAbove r a → IsAtOrAbove to b) → Owes c r a
    → Owes c to b
owes_on (remove p) r a to b up down is = up is
owes_on (set p text) r a to b up down is = elim is [ inl x ↦ inl (up x) | inr x ↦ inr (down x) ]
owes_on (insert p text) r a to b up down is = elim is [ inl x ↦ inl (up x) | inr x ↦ inr (down x) ]
owes_on (rename p n) r a to b up down is = elim is [ inl x ↦ inl (up x) | inr x ↦ inr (down x) ]
owes_on (new_section p) r a to b up down is = elim is [ inl x ↦ inl (up x) | inr x ↦ inr (down x) ]
owes_on (new_element p) r a to b up down is = elim is [ inl x ↦ inl (up x) | inr x ↦ inr (down x) ]

-- what the first edit owes it owes where the others carry it, if what is below goes along
owed_on : (c : Change) (cs : List Change) (a b : Address) → carried cs a ≡ Some b
    → ((rest : Address) → carried cs (a ++ rest) ≡ option_map (λ x. x ++ rest) (carried cs a)) → IsOwed (c ∷ []) a → IsOwed (c ∷ cs) b
owed_on c cs a b goes all (inr none) = absurd none
owed_on c cs a b goes all (inl (r, q, is, same, owes)) =
    let owes' = at_itself (λ x. Owes c x a) r q same owes in
    let to = there r (which c r a owes') in
    inl (r, to.0, is, to.1, owes_on c r a to.0 b (up r to.0 to.1) (down r to.0 to.1) owes')
  where
    above : (r rest : Address) → r ≡ a ++ rest → carried cs r ≡ Some (b ++ rest)
    above r rest at = ap (carried cs) at ∙ all rest ∙ ap (option_map (λ x. x ++ rest)) goes

    up : (r to : Address) → carried cs r ≡ Some to → IsAtOrAbove a r → IsAtOrAbove b to
    up r to is (rest, at) = (rest, same_Some to (b ++ rest) (sym is ∙ above r rest at))

    down : (r to : Address) → carried cs r ≡ Some to → IsAtOrAbove r a → IsAtOrAbove to b
    down r to is at = let f = at_front cs r a b goes at in subst (λ x. IsAtOrAbove x b) (same_Some f.0 to (sym f.1 ∙ is)) f.2

    there : (r : Address) → IsAtOrAbove a r ⊎ IsAtOrAbove r a → (to : Address) × (carried cs r ≡ Some to)
    there r (inl (rest, at)) = (b ++ rest, above r rest at)
    there r (inr at) = let f = at_front cs r a b goes at in (f.0, f.1)

below_which : (c : Change) (r a : Address) → OwesBelow c r a → IsAtOrAbove r a
below_which (set p text) r a is = is
below_which (insert p text) r a is = is
below_which (rename p to) r a is = is
below_which (remove p) r a is = absurd is
below_which (new_section p) r a is = is
below_which (new_element p) r a is = is

below_there : (c : Change) (r a to b : Address) → OwesBelow c r a → IsAtOrAbove to b → OwesBelow c to b
below_there (set p text) r a to b was is = is
below_there (insert p text) r a to b was is = is
below_there (rename p n) r a to b was is = is
below_there (remove p) r a to b was is = was
below_there (new_section p) r a to b was is = is
below_there (new_element p) r a to b was is = is

pub below_on : (c : Change) (cs : List Change) (a b : Address) → carried cs a ≡ Some b → IsOwedBelow (c ∷ []) a → IsOwedBelow (c ∷ cs) b
below_on c cs a b goes (inr none) = absurd none
below_on c cs a b goes (inl (r, q, is, same, owes)) =
    let owes' = at_itself (λ x. OwesBelow c x a) r q same owes in
    let f = at_front cs r a b goes (below_which c r a owes') in
    inl (r, f.0, is, f.1, below_there c r a f.0 b owes' f.2)

-- ---- what is written

pub written_on : (c : Change) (cs : List Change) (ts : List (List ℕ)) (more : List (List (List ℕ))) (w v : TextUnit)
    → v.piece.text ≡ w.piece.text → IsCarriedTo cs w.address v.address
    → IsWritten (c ∷ []) (ts ∷ []) w → IsWritten (c ∷ cs) (ts ∷ more) v
written_on c cs ts more w v same goes (inr none) = absurd none
written_on c cs ts more w v same goes (inl (there, q, is, at)) =
    let f = by w.address v.address goes (at_itself (λ x. At w.address (IsAtOrAbove x)) (place c) q is at) in
    inl (subst (λ t. Contains ts t) (sym same) there, f.0, f.1, f.2)
  where
    by : (o x : Option Address) → IsCarriedTo cs o x → At o (IsAtOrAbove (place c)) → (to : Address) × (carried cs (place c) ≡ Some to)
        × At x (IsAtOrAbove to)
    by None x goes at = absurd at
    by (Some a) None goes at = absurd goes
    by (Some a) (Some b) goes at = at_front cs (place c) a b goes at

-- ---- what it owes where the others carry that on

pub at_map : {P Q : Address → Type 0} → ((a : Address) → P a → Q a) → (o : Option Address) → At o P → At o Q
at_map f None h = h
at_map f (Some a) h = f a h

-- what the first edit owes of a line that the others do not name
pub record OwedOn (c : Change) (cs : List Change) (base : Option ℕ) (o : Option Address) : Type 0 where
  pub owed : At o (IsOwed (c ∷ cs))
  pub header : base ≡ None → At o (IsOwedBelow (c ∷ cs))

pub line_owed : (c : Change) (cs : List Change) (base : Option ℕ) (o x : Option Address) → stands parts.Line cs o base ≡ true
    → IsCarriedTo cs o x
    → At o (IsOwed (c ∷ [])) → (base ≡ None → At o (IsOwedBelow (c ∷ []))) → OwedOn c cs base x
line_owed c cs base None x kept goes owed header = absurd owed
line_owed c cs base (Some a) None kept goes owed header = absurd goes
line_owed c cs None (Some a) (Some b) kept goes owed header =
    let below = below_on c cs a b goes (header refl) in record { owed = owed_below (c ∷ cs) b below; header = λ is. below }
line_owed c cs (Some n) (Some a) (Some b) kept goes owed header =
    record { owed = owed_on c cs a b goes (λ rest. along parts.Line (Some n) tt cs a rest kept) owed; header = λ is. cc }
