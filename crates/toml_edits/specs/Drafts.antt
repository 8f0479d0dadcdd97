-- Data while edits are made on them, with one array held open.
use Rattle.std.specs.Prelude.{◌≡◌, ℕ, List, [], ◌∷◌, ◌++◌, Bool, true, false, Option, Some, None, IsSome, MatchOption, Result, IfErr, OnOk, if◌then◌else◌, slice_get}
use Rattle.std.specs.Borrow.{Bor}
use Rattle.toml_names.specs.declared.model.address.Step.{Step}
use Rattle.toml_names.specs.declared.model.address.Step.TheVariants.{Name, Index}
use Rattle.toml_names.specs.declared.model.datum.Datum.{Datum}
use Rattle.toml_names.specs.model.Addresses.{Address, element}
use Rattle.toml_names.specs.model.Data.{Kinds, kind_at, kind_in}
use Rattle.toml_names.specs.mentions.Mentions.{Kind, an_array}
use Rattle.toml_lists.specs.Gaps.{items}
use Rattle.toml_tree.specs.declared.profile.Profile.{Profile}
use Rattle.toml_edits.specs.declared.draft.Draft.{Draft}
use Rattle.toml_edits.specs.declared.fault.EditFault.{EditFault}
use Rattle.toml_edits.specs.declared.open_array.OfElement.{OfElement}
use Rattle.toml_edits.specs.declared.open_array.OpenArray.{OpenArray}
use Rattle.toml_edits.specs.Applied.{IsApplied, IsRefused}
use Rattle.toml_edits.specs.Changed.{below}
use Rattle.toml_edits.specs.Edits.{Change, insert, remove}

-- what stands in an array of these elements
abbrev pub elements_at : List Datum → Kinds
elements_at ds [] = Some an_array
elements_at ds (Index i ∷ at) = kind_in (slice_get ds i) at
elements_at ds (Name n ∷ at) = None

abbrev pub is_array : Option Kind → Bool
is_array (Some an_array) = true
is_array _ = false

-- the data with these elements for those of the array at the address, if there is one
abbrev pub filled : Address → List Datum → Kinds → Kinds
filled q ds f = if is_array (f q) then below q (λ part. elements_at ds) f else f

-- the data with the elements of an open array put back
abbrev pub with_open : Option OpenArray → Kinds → Kinds
with_open None f = f
with_open (Some a) f = filled a.at (items a.elements) f

-- what stands at each address in the data on which the edits are made
abbrev pub drafted : Draft → Kinds
drafted d = with_open d.array (kind_at d.«data».root)

-- ---- an edit that puts an element in or takes one out

-- its address is that of the element of the array
abbrev pub IsPlaced : OfElement → Type 0
IsPlaced e = e.at.now ≡ element e.array.now e.index

-- it puts in a value of this text, or takes the element out
abbrev pub change_there : Address → Option (Bor (List ℕ)) → Change
change_there at None = remove at
change_there at (Some text) = insert at text.now

abbrev pub element_change : OfElement → Change
element_change e = change_there e.at.now e.value

-- the edit is this one
abbrev pub IsOfElement : Change → OfElement → Type 0
IsOfElement c e = (c ≡ element_change e) × IsPlaced e

-- ---- an open array

-- its elements stand at its address in the data
abbrev pub StandAt : OpenArray → Kinds → Type 0
StandAt a f = (r : Address) → f (a.at ++ r) ≡ elements_at (items a.elements) r

-- the new data are the old ones with its elements there
abbrev pub IsRefilled : OpenArray → Kinds → Kinds → Type 0
IsRefilled a f g = (at : Address) → g at ≡ below a.at (λ part. elements_at (items a.elements)) f at

-- the address is one step below it, and the data have an array there
abbrev pub IsOpenFor : OpenArray → Kinds → Address → Type 0
IsOpenFor a root at = ((s : Step) × (at ≡ a.at ++ s ∷ [])) × (is_array (root a.at) ≡ true)

-- At the address this is found in the data with the elements put back: it has the kind that stands there, and where the address is one
-- step below the array, all that stands below it.
pub record FindsOpen (a : OpenArray) (root : Kinds) (at : Address) (found : Option Datum) : Type 0 where
  pub kind : kind_in found [] ≡ filled a.at (items a.elements) root at
  pub part : IsOpenFor a root at → (rest : Address) → kind_in found rest ≡ filled a.at (items a.elements) root (at ++ rest)

-- The edit is so answered, of whatever data in which the old elements stand: with its fault, or that it makes those with the new ones.
pub record IsMadeIn {A : Type 0} (profile : Profile) (c : Change) (old new : OpenArray) (result : Result A EditFault) : Type 0 where
  pub fault : (f : Kinds) → StandAt old f → IfErr result (IsRefused profile c f)
  pub ok : (f g : Kinds) → StandAt old f → IsRefilled new f g → OnOk result (IsApplied profile c f g)

-- no array is open, or that at the address, where the data have one
abbrev pub IsTurned : Draft → Address → Type 0
IsTurned d q = MatchOption d.array (Unit {0}) (λ a. (a.at ≡ q) × (is_array (kind_at d.«data».root a.at) ≡ true))

-- no array is open, or one of which the address is an element's, where the data have that array
abbrev pub IsReadyAt : Draft → Address → Type 0
IsReadyAt d at = MatchOption d.array (Unit {0}) (λ a. IsOpenFor a (kind_at d.«data».root) at)

-- ---- arrays of one element

-- there is a first element, and no second one
abbrev pub HasOne : Kinds → Type 0
HasOne f = IsSome (f (Index 0 ∷ [])) × (f (Index 1 ∷ []) ≡ None)

-- the address is that of the only element of an array
abbrev pub IsOnlyElement : Kinds → Address → Type 0
IsOnlyElement f at = (q : Address) × (at ≡ element q 0) × IsSome (f at) × (f (element q 1) ≡ None)
