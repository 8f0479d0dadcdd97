-- What stands at the parts of a text's data, and where a step leads from one.
use Rattle.std.proofs.Common.{◌≡◌, ℕ, zero, suc, ◌+◌, ◌-◌, ◌<◌, ◌≤◌, Bool, true, false, cond, List, [], ◌∷◌, ◌++◌, length, length-append, Option, Some, None, option_map, sym, refl, ap, ◌∙◌, subst, arith, rules, Bor}
use Rattle.std.specs.Prelude.{IsSome, SomeIff, option_and_then, slice_get, slice_index_or}
use Rattle.std.specs.Map.{lookup}
use Rattle.std.specs.Option.{option_copied}
use Rattle.std.specs.Slice.{IsGetResult}
use Rattle.std.specs.Cmp.Lexicographic.{nat_list_eq_equiv}
use Rattle.std.specs.Str.{bytes_eq}
use Rattle.std.proofs.lemmas.Bool.{false≢true, cond-true}
use Rattle.std.proofs.lemmas.List.{append-nil}
use Rattle.std.proofs.lemmas.Map.Views.{Contains-from_lookup, IsSome-lookup_from_Contains}
use Rattle.std.proofs.lemmas.Option.{slice_get-get_or, slice_get_within, slice_get_past, get_or_from_slice_get}
use Rattle.std.proofs.lemmas.Slice.Eq.{bytes_eq-Decides}
use Rattle.toml_names.specs.declared.model.address.Step.{Step}
use Rattle.toml_names.specs.declared.model.address.Step.TheVariants as steps
use Rattle.toml_names.specs.mentions.Mentions.{Kind, an_array}
use Rattle.toml_names.specs.model.Addresses.{Address, same_address}
use Rattle.toml_names.specs.model.Data.{Kinds}
use Rattle.toml_names.specs.reader.Parts.{AreItems, AreMembers, IsPart, part_kinds}
use Rattle.toml_names.specs.tree.Held.{below_in}
use Rattle.toml_names.specs.tree.Nodes.{Spot, addresses, addresses_from, address_at, address_under, nowhere, place_of}
use Rattle.toml_names.proofs.Proved.{same_address-decides}
use Rattle.toml_places.specs.declared.place.PlaceStep.{PlaceStep}
use Rattle.toml_places.specs.declared.place.PlaceStep.TheVariants.{FromEnd, Behind}
use Rattle.toml_places.specs.Leading.{IsArrayOf, below_step}
use Rattle.toml_places.specs.Parts.{IsLengthOf, IsStepOf, Stands}
use Rattle.toml_places.proofs.Addresses.{one_length}

-- Something stands at each part: its address is among those of the parts.
long : (above : List Address) (parts : List Spot) → length (addresses_from above parts) ≡ length above + length parts
long above [] = omega arith
long above (s ∷ parts) = omega (arith, long (above ++ address_under above s.under ∷ []) parts, length-append above (address_under above s.under ∷ []))

is_among : (all : List Address) (id : ℕ) → id < length all → IsSome (place_of (slice_index_or all id []) all)
is_among [] id low = absurd (omega arith)
is_among (a ∷ all) zero low = rw (cond-true _ (Some 0) (option_map (λ i. i + 1) (place_of a all)) ((same_address-decides a a).1 refl)) refl
is_among (a ∷ all) (suc id) low = by (same_address a (slice_index_or all id [])) (place_of (slice_index_or all id []) all) (is_among all id (omega arith))
  where
    by : (t : Bool) (o : Option ℕ) → IsSome o → IsSome (cond t (Some 0) (option_map (λ i. i + 1) o))
    by true o some = refl
    by false None some = absurd (false≢true some)
    by false (Some i) some = refl

pub part_is_there : (parts : List Spot) (id : ℕ) → IsPart parts id → IsSome (part_kinds parts id [])
part_is_there parts id low =
    let all : length (addresses parts) ≡ length parts = let h = long [] parts in omega arith in
    subst (λ at. IsSome (option_map (λ k. (slice_index_or parts k nowhere).kind) (place_of at (addresses parts)))) (sym (append-nil (address_at parts id)))
    (by (place_of (address_at parts id) (addresses parts)) (is_among (addresses parts) id (omega arith)))
  where
    by : (o : Option ℕ) → IsSome o → IsSome (option_map (λ k. (slice_index_or parts k nowhere).kind) o)
    by None some = absurd (false≢true some)
    by (Some k) some = refl

-- below something, and below nothing
pub below_there : (kinds : Kinds) (s : Step) (at : Address) → IsSome (kinds []) → below_step s kinds at ≡ kinds (s ∷ at)
below_there kinds s at there = by (kinds []) there
  where
    by : (o : Option Kind) → IsSome o → option_and_then (λ here. kinds (s ∷ at)) o ≡ kinds (s ∷ at)
    by None some = absurd (false≢true some)
    by (Some k) some = refl

pub below_none : (kinds : Kinds) (s : Step) (at : Address) → kinds [] ≡ None → below_step s kinds at ≡ None
below_none kinds s at none = ap (option_and_then (λ here. kinds (s ∷ at))) none

nothing_there : (kinds : Kinds) (s : Step) → kinds (s ∷ []) ≡ None → below_step s kinds [] ≡ None
nothing_there kinds s none = by (kinds [])
  where
    by : (o : Option Kind) → option_and_then (λ here. kinds (s ∷ [])) o ≡ None
    by None = refl
    by (Some k) = none

-- what `get` gives
pub item_got : (xs : List ℕ) (i : ℕ) (r : Option (Bor ℕ)) → IsGetResult xs i i r → option_copied r ≡ slice_get xs i
item_got xs i r h = search (rules, slice_get_past, slice_get-get_or)

-- an index
pub item_stands : (parts : List Spot) (id : ℕ) (items : List ℕ) (i : ℕ) → IsPart parts id → AreItems parts id items → Stands parts (slice_get items i) (below_step (steps.Index i) (part_kinds parts id))
item_stands parts id items i part are = by (slice_get items i) refl
  where
    by : (o : Option ℕ) → slice_get items i ≡ o → Stands parts o (below_step (steps.Index i) (part_kinds parts id))
    by None is = nothing_there (part_kinds parts id) (steps.Index i) (are.each i [] ∙ ap (λ o. below_in parts o []) is)
    by (Some k) is = (
      subst (IsPart parts) (get_or_from_slice_get items i k k is) (are.below i k (slice_get_within items i k is)).part,
      λ at. below_there (part_kinds parts id) (steps.Index i) at (part_is_there parts id part) ∙ are.each i at ∙ ap (λ o. below_in parts o at) is,
    )

-- a name
module _ (parts : List Spot) (id : ℕ) (members : List (List ℕ × ℕ)) (name : List ℕ) (part : IsPart parts id) (are : AreMembers parts id members) where
  same_names : (x y : List ℕ) → bytes_eq x y ≡ true → x ≡ y
  same_names x y = (bytes_eq-Decides x y).0

  no_member : lookup (bytes_eq name) members ≡ None → part_kinds parts id (steps.Name name ∷ []) ≡ None
  no_member none = by (part_kinds parts id (steps.Name name ∷ [])) refl
    where
      by : (o : Option Kind) → part_kinds parts id (steps.Name name ∷ []) ≡ o → o ≡ None
      by None is = refl
      by (Some k) is =
          let there : IsSome (lookup (bytes_eq name) members) = IsSome-lookup_from_Contains nat_list_eq_equiv name members (are.all name (rw is refl)) in
          absurd (false≢true (subst IsSome none there))

  pub member_stands : (o : Option ℕ) → o ≡ lookup (bytes_eq name) members → Stands parts o (below_step (steps.Name name) (part_kinds parts id))
  member_stands None is = nothing_there (part_kinds parts id) (steps.Name name) (no_member (sym is))
  member_stands (Some k) is =
      let at_k = Contains-from_lookup same_names name k members (sym is) in
      let got : slice_get members at_k.0 ≡ Some (name, k) = slice_get-get_or members at_k.0 (name, k) at_k.1 ∙ ap Some at_k.2 in (
        (are.below at_k.0 (name, k) got).part,
        λ at. below_there (part_kinds parts id) (steps.Name name) at (part_is_there parts id part) ∙ are.each at_k.0 (name, k) got at,
      )

-- the length of an array
module _ (parts : List Spot) (id : ℕ) (items : List ℕ) (are : AreItems parts id items) where
  within_items : (i : ℕ) (o : Option ℕ) → slice_get items i ≡ o → IsSome (part_kinds parts id (steps.Index i ∷ [])) → i < length items
  within_items i None is some = absurd (false≢true (subst IsSome (are.each i [] ∙ ap (λ o. below_in parts o []) is) some))
  within_items i (Some k) is some = slice_get_within items i k is

  item_there : (i : ℕ) → i < length items → IsSome (part_kinds parts id (steps.Index i ∷ []))
  item_there i low =
      let k = slice_index_or items i 0 in
      let is : slice_get items i ≡ Some k = slice_get-get_or items i 0 low in
      subst IsSome (sym (are.each i [] ∙ ap (λ o. below_in parts o []) is)) (part_is_there parts k (are.below i 0 low).part)

  pub array_length : part_kinds parts id [] ≡ Some an_array → IsArrayOf (part_kinds parts id) (length items)
  array_length array = record { array = array; elements = λ i. (within_items i (slice_get items i) refl, item_there i) }

pub no_array : (kinds : Kinds) (o : Option Kind) → kinds [] ≡ o → ¬ (o ≡ Some an_array) → (len : ℕ) → ¬ IsArrayOf kinds len
no_array kinds o is other len array = other (sym is ∙ array.array)

-- a step of a place in an array of so many elements
pub from_end_is : (kinds : Kinds) (len n : ℕ) → IsArrayOf kinds len → (o : Option ℕ) → SomeIff o ((0 < n) × (n ≤ len)) (len - n) → IsStepOf kinds (FromEnd n) (option_map steps.Index o)
from_end_is kinds len n array None never = λ t h.
    let long : h.0 ≡ len = one_length kinds h.0 len h.1 array in
    never (h.2, omega arith)
from_end_is kinds len n array (Some i) is = (len, array, is.0.0, is.0.1, ap (λ k. steps.Index k) is.1)

pub from_end_none : (kinds : Kinds) (n : ℕ) → ((len : ℕ) → ¬ IsArrayOf kinds len) → IsStepOf kinds (FromEnd n) None
from_end_none kinds n never t (len, array, some, low, is) = never len array

pub behind_is : (kinds : Kinds) (o : Option ℕ) → IsLengthOf kinds o → IsStepOf kinds Behind (option_map steps.Index o)
behind_is kinds None never = λ t h. never h.0 h.1
behind_is kinds (Some len) array = (len, array, refl)

-- the step as it stands
pub step_is : (kinds : Kinds) (s u : PlaceStep) (o p : Option Step) → s ≡ u → o ≡ p → IsStepOf kinds u p → IsStepOf kinds s o
step_is kinds s u o p same found is = subst (λ v. IsStepOf kinds v o) (sym same) (subst (IsStepOf kinds u) (sym found) is)
