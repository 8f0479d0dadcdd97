-- What is made above a place at which nothing stands yet.
use Rattle.std.specs.Prelude.{◌≡◌, ◌⊎◌, ℕ, Bool, true, false, if◌then◌else◌, List, [], ◌∷◌, ◌++◌, codes, Option, Some, None, is_some, slice_get, MatchOption}
use Rattle.toml_names.specs.declared.model.address.Step.{Step}
use Rattle.toml_names.specs.declared.model.address.Step.TheVariants as steps
use Rattle.toml_names.specs.declared.model.place.Place.{Place}
use Rattle.toml_names.specs.declared.model.place.Place.TheVariants.{KeyVal, Inside}
use Rattle.toml_names.specs.mentions.Mentions.{Named}
use Rattle.toml_names.specs.model.Addresses.{Address}
use Rattle.toml_names.specs.model.Data.{Kinds}
use Rattle.toml_names.specs.model.Places.{place}
use Rattle.toml_places.specs.declared.place.PlaceStep.{PlaceStep}
use Rattle.toml_places.specs.declared.place.PlaceStep.TheVariants as places
use Rattle.toml_places.specs.Leading.{IsArrayOf, IsStep, below_step}
use Rattle.toml_edits.specs.Edits.{Change, insert, new_section, new_element}
use Rattle.toml_one.specs.Steps.{is_index}

-- a front of a place: its address, what stands there and below it, and whether it is a value or in one, or is made so
pub record Front : Type 0 where
  pub at : Address
  pub kinds : Kinds
  pub in_value : Bool

abbrev pub root : Kinds → Front
root kinds = record { at = []; kinds = kinds; in_value = false }

-- an address at which nothing stands in any document, nor above it: the root is a table, and has no element
abbrev pub nowhere : Address
nowhere = steps.Index 0 ∷ steps.Name [] ∷ []

abbrev pub nothing : Kinds
nothing at = None

-- The step of an address that a step of a place is; where nothing stands `[+]` is the first element.
abbrev pub IsNewStep : Kinds → PlaceStep → Step → Type 0
IsNewStep kinds (places.Name name) t = IsStep kinds (places.Name name) t
IsNewStep kinds (places.Index i) t = IsStep kinds (places.Index i) t
IsNewStep kinds (places.FromEnd n) t = IsStep kinds (places.FromEnd n) t
IsNewStep kinds places.Behind t = MatchOption (kinds []) (t ≡ steps.Index 0) (λ k. IsStep kinds places.Behind t)

-- the step is that one, or there is none, as of `[-1]` where no element is
abbrev pub IsNewStepOf : Kinds → PlaceStep → Option Step → Type 0
IsNewStepOf kinds s found = MatchOption found ((t : Step) → ¬ IsNewStep kinds s t) (IsNewStep kinds s)

-- it is the value of a line, or in one
abbrev pub is_in_value : Option Place → Bool
is_in_value (Some (KeyVal line)) = true
is_in_value (Some (Inside line)) = true
is_in_value _ = false

-- the same of what stands at an address; what is made there is in a value if what is above is one or in one
abbrev pub stands_in_value : List Named → Address → Bool → Bool → Bool
stands_in_value ms at there above = if there then is_in_value (place ms at) else above

-- One step further in the document whose names these are. Where there is no such step it leads to an address at which nothing stands.
abbrev pub further : List Named → Front → Option Step → Front
further ms front (Some t) = record {
  at = front.at ++ t ∷ [];
  kinds = below_step t front.kinds;
  in_value = stands_in_value ms (front.at ++ t ∷ []) (is_some (below_step t front.kinds [])) front.in_value;
}
further ms front None = record { at = nowhere; kinds = nothing; in_value = front.in_value }

-- an empty array where an index follows, else an empty table
abbrev pub empty_value : PlaceStep → List ℕ
empty_value next = if is_index next then codes "[]" else codes "{}"

-- the index behind the last element of the array that stands there, or 0 where nothing does
abbrev pub IsNextElement : Kinds → ℕ → Type 0
IsNextElement kinds i = MatchOption (kinds []) (i ≡ 0) (λ k. IsArrayOf kinds i)

-- what is made at the address of an element
abbrev pub MakesElement : Kinds → ℕ → Address → List Change → Type 0
MakesElement above i at cs = (IsNextElement above i × (cs ≡ new_element at ∷ [])) ⊎ ((¬ IsNextElement above i) × (cs ≡ []))

-- what is made at the address one step below what stands in no value, where no index follows: a section, or an element
abbrev pub MakesTable : Kinds → Option Step → Address → List Change → Type 0
MakesTable above (Some (steps.Name name)) at cs = cs ≡ new_section at ∷ []
MakesTable above (Some (steps.Index i)) at cs = MakesElement above i at cs
MakesTable above None at cs = cs ≡ []

-- what is made at the address one step below, where nothing stands: in a value an empty value; else nothing where an index follows
abbrev pub MakesMissing : Bool → Bool → PlaceStep → Kinds → Option Step → Address → List Change → Type 0
MakesMissing true indexed next above t at cs = cs ≡ insert at (empty_value next) ∷ []
MakesMissing false true next above t at cs = cs ≡ []
MakesMissing false false next above t at cs = MakesTable above t at cs

-- the same by whether something stands there
abbrev pub MakesProper : Bool → Bool → PlaceStep → Kinds → Option Step → Address → List Change → Type 0
MakesProper true in_value next above t at cs = cs ≡ []
MakesProper false in_value next above t at cs = MakesMissing in_value (is_index next) next above t at cs

-- what is made at a front, which `next` follows if it is a proper one: something stands there, and what is above is in a value, or not
abbrev pub MakesAt : Bool → Bool → Option PlaceStep → Kinds → Option Step → Address → List Change → Type 0
MakesAt there in_value None above t at cs = cs ≡ []
MakesAt there in_value (Some next) above t at cs = MakesProper there in_value next above t at cs

-- the same of the front one step below another
abbrev pub MakesBelow : Front → Option Step → Front → Option PlaceStep → List Change → Type 0
MakesBelow front t to next cs = MakesAt (is_some (to.kinds [])) front.in_value next front.kinds t to.at cs

-- What is made at the fronts of what is left of a place behind one of them, the shortest first, and the end of the place.
abbrev pub Makes : List Named → Front → List PlaceStep → List Change → Front → Type 0
Makes ms front [] cs end = (cs ≡ []) × (end ≡ front)
Makes ms front (s ∷ left) cs end =
    (t : Option Step) × (first more : List Change) × IsNewStepOf front.kinds s t × MakesBelow front t (further ms front t) (slice_get left 0) first
    × Makes ms (further ms front t) left more end × (cs ≡ first ++ more)
