-- What stands in data of which an array is held open.
use Rattle.std.proofs.Common.{◌≡◌, ◌∙◌, ◌-◌, ◌<◌, ℕ, Bool, true, false, List, [], ◌∷◌, ◌++◌, drop, length, nat_eq, vec_len, Option, Some, None, MatchOption, is_some, IsSome, IsTrue, Vec, Global, refl, sym, ap, append_assoc, subst, subst₂, true≢false, arith}
use Rattle.std.proofs.lemmas.Bool.Decides.{nat_tests}
use Rattle.std.proofs.lemmas.List.{drop_at, length-append}
use Rattle.std.specs.Borrow.{Bor}
use mathlib.Core.Path.{fun_ext}
use Rattle.toml_lists.specs.Gaps.{items}
use Rattle.toml_names.specs.declared.model.address.Step.{Step}
use Rattle.toml_names.specs.declared.model.address.Step.TheVariants.{Index}
use Rattle.toml_names.specs.declared.model.datum.Datum.{Datum, Array}
use Rattle.toml_names.specs.model.Addresses.{Address, IsAbove, element, is_above}
use Rattle.toml_names.specs.model.Data.{Kinds, kind_at}
use Rattle.toml_names.proofs.Proved.{above_is_above, has_kind}
use Rattle.toml_edits.specs.declared.draft.Draft.{Draft}
use Rattle.toml_edits.specs.declared.open_array.OpenArray.{OpenArray}
use Rattle.toml_edits.specs.Changed.{below}
use Rattle.toml_edits.specs.Drafts.{HasOne, IsOnlyElement, IsOpenFor, IsReadyAt, IsRefilled, IsTurned, StandAt, change_there, elements_at, filled, is_array, with_open}
use Rattle.toml_edits.specs.Edits.{place}
use Rattle.toml_edits.proofs.LastStep.{same_parent}
use Rattle.toml_edits.proofs.OpenElements.{array_has, past, refilled, stand_there, within}

-- ---- addresses in an array

-- one step below, where it is shorter by one step
pub one_below : (a b : Address) → IsAbove a b → length b - 1 ≡ length a → (s : Step) × (b ≡ a ++ s ∷ [])
one_below a b (s, [], is) short = (s, is)
one_below a b (s, t ∷ rest, is) short = absurd (omega (arith, short, ap length is, length-append a (s ∷ t ∷ rest)))

pub not_below : (q at : Address) (b : Bool) → b ≡ is_above q at → b ≡ false → (s : Step) (r : Address) → ¬ (at ≡ q ++ s ∷ r)
not_below q at b is other s r e = true≢false (sym ((above_is_above q at).1 (s, r, e)) ∙ sym is ∙ other)

behind_is : (q at steps : Address) (s : Step) (r : Address) → at ≡ q ++ s ∷ r → steps ≡ drop (length q) at → steps ≡ s ∷ r
behind_is q at steps s r is cut = cut ∙ ap (drop (length q)) is ∙ drop_at q (s ∷ r) (length q) refl

pub some_behind : (q at steps : Address) → IsAbove q at → steps ≡ drop (length q) at → 0 < length steps
some_behind q at steps (s, r, is) cut = let all = ap length (behind_is q at steps s r is cut) in omega (arith, all)

pub found_behind : (q at steps : Address) (ds : List Datum) (f : Kinds) → is_array (f q) ≡ true → IsAbove q at → steps ≡ drop (length q) at → (rest : Address) → elements_at ds (steps ++ rest) ≡ filled q ds f (at ++ rest)
found_behind q at steps ds f there (s, r, is) cut rest =
    ap (λ (b : Address). elements_at ds (b ++ rest)) (behind_is q at steps s r is cut)
    ∙ sym (ap (λ (b : Address). filled q ds f (b ++ rest)) is ∙ ap (filled q ds f) (append_assoc q (s ∷ r) rest) ∙ stand_there q ds f there (s ∷ (r ++ rest)))

-- ---- arrays of one element

-- one whose first element is there, and no second one
just_one : (ds : List Datum) → HasOne (elements_at ds) → length ds ≡ 1
just_one [] (first, none) = cc
just_one (d ∷ []) (first, none) = refl
just_one (d ∷ e ∷ ds) (first, none) = absurd (true≢false (sym (has_kind e) ∙ ap is_some none))

pub one_array : (v : Vec Datum Global) (n : ℕ) → n ≡ vec_len v → IsTrue (nat_eq n 1) → HasOne (kind_at (Array v))
one_array v n is one =
    let e : length v.items ≡ 1 = (let same : n ≡ 1 = grind (arith, nat_tests) in let ok = v.ok.0 in omega (arith, is, same, ok)) in (
      subst IsSome (sym (array_has v (Index 0 ∷ []))) (within v.items 0 (omega (arith, e))),
      array_has v (Index 1 ∷ []) ∙ past v.items 1 [] (omega (arith, e)),
    )

pub array_one : (v : Vec Datum Global) (n : ℕ) → n ≡ vec_len v → HasOne (kind_at (Array v)) → IsTrue (nat_eq n 1)
array_one v n is (first, none) =
    let one : length v.items ≡ 1 = just_one v.items (subst IsSome (array_has v (Index 0 ∷ [])) first, sym (array_has v (Index 1 ∷ [])) ∙ none) in
    let same : n ≡ 1 = (let ok = v.ok.0 in omega (arith, is, one, ok)) in
    ap (λ k. nat_eq k 1) same

pub only_open : (a : OpenArray) (root : Kinds) (at above : Address) → at ≡ element above 0 → IsOpenFor a root at → length (items a.elements) ≡ 1 → IsOnlyElement (with_open (Some a) root) at
only_open a root at above is ((s, one), there) single =
    let ds = items a.elements in
    let same : a.at ≡ above = same_parent a.at above s (Index 0) (sym one ∙ is) in
    let here : at ≡ element a.at 0 = is ∙ ap (λ (q : Address). element q 0) (sym same) in (
      a.at,
      here,
      subst IsSome (sym (ap (filled a.at ds root) here ∙ stand_there a.at ds root there (Index 0 ∷ []))) (within ds 0 (omega (arith, single))),
      stand_there a.at ds root there (Index 1 ∷ []) ∙ past ds 1 [] (omega (arith, single)),
    )

pub open_only : (a : OpenArray) (root : Kinds) (at : Address) → IsOpenFor a root at → IsOnlyElement (with_open (Some a) root) at → length (items a.elements) ≡ 1
open_only a root at ((s, one), there) (q, is, first, none) =
    let ds = items a.elements in
    let same : a.at ≡ q = same_parent a.at q s (Index 0) (sym one ∙ is) in
    let here : at ≡ element a.at 0 = is ∙ ap (λ (p : Address). element p 0) (sym same) in
    just_one ds (
      subst IsSome (ap (filled a.at ds root) here ∙ stand_there a.at ds root there (Index 0 ∷ [])) first,
      sym (stand_there a.at ds root there (Index 1 ∷ [])) ∙ ap (λ (p : Address). filled a.at ds root (element p 1)) same ∙ none,
    )

-- ---- ready for an edit

pub ready_closed : (d : Draft) (at : Address) → d.array ≡ None → IsReadyAt d at
ready_closed d at none = subst (λ o. MatchOption o (Unit {0}) (λ a. IsOpenFor a (kind_at d.«data».root) at)) (sym none) tt

by_array : (o : Option OpenArray) (root : Kinds) (q at : Address) (i : ℕ) → at ≡ element q i → MatchOption o (Unit {0}) (λ a. (a.at ≡ q) × (is_array (root a.at) ≡ true)) → MatchOption o (Unit {0}) (λ a. IsOpenFor a root at)
by_array None root q at i is turned = tt
by_array (Some a) root q at i is (same, there) = ((Index i, is ∙ ap (λ (p : Address). element p i) (sym same)), there)

pub ready_turned : (d : Draft) (q at : Address) (i : ℕ) → at ≡ element q i → IsTurned d q → IsReadyAt d at
ready_turned d q at i is turned = by_array d.array (kind_at d.«data».root) q at i is turned

pub ready_open : (d : Draft) (at : Address) (a : OpenArray) → d.array ≡ Some a → IsReadyAt d at → IsOpenFor a (kind_at d.«data».root) at
ready_open d at a is ready = subst (λ o. MatchOption o (Unit {0}) (λ b. IsOpenFor b (kind_at d.«data».root) at)) is ready

pub place_there : (at : Address) (value : Option (Bor (List ℕ))) → place (change_there at value) ≡ at
place_there at None = refl
place_there at (Some text) = refl

-- ---- edits

-- where no array is open
pub as_closed : (P : Kinds → Kinds → Type 0) (array : Option OpenArray) (root new old : Kinds) → array ≡ None → ((at : Address) → with_open array root at ≡ old at) → P root new → P old (with_open array new)
as_closed P array root new old none same holds =
    let is : root ≡ old = fun_ext (λ at. ap (λ o. with_open o root at) (sym none) ∙ same at) in
    subst₂ P is (ap (λ o. with_open o new) (sym none)) holds

-- the elements of the open array stand in the data,
pub stands : (a : OpenArray) (root : Kinds) → is_array (root a.at) ≡ true → StandAt a (with_open (Some a) root)
stands a root there = stand_there a.at (items a.elements) root there

-- and others stand there once they are changed
pub stands_again : (a b : OpenArray) (root : Kinds) → b.at ≡ a.at → is_array (root a.at) ≡ true → IsRefilled b (with_open (Some a) root) (with_open (Some b) root)
stands_again a b root same there at =
    ap (λ (q : Address). filled q (items b.elements) root at) same
    ∙ refilled a.at (items a.elements) (items b.elements) root there at
    ∙ ap (λ (q : Address). below q (λ part. elements_at (items b.elements)) (filled a.at (items a.elements) root) at) (sym same)
