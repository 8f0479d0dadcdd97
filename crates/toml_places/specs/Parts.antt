-- Which part stands for what, and words of the code's own contracts: which part is found among members.
use Rattle.std.specs.Prelude.{◌≡◌, ℕ, List, [], Option, Some, None, MatchOption}
use Rattle.toml_names.specs.declared.model.address.Step.{Step}
use Rattle.toml_names.specs.model.Addresses.{Address}
use Rattle.toml_names.specs.model.Data.{Kinds}
use Rattle.toml_names.specs.reader.Parts.{IsPart, part_kinds}
use Rattle.toml_names.specs.tree.Nodes.{Spot}
use Rattle.toml_places.specs.declared.place.PlaceStep.{PlaceStep}
use Rattle.toml_places.specs.Leading.{IsArrayOf, IsStep}

-- what stands at the part and below it; nothing where there is no part
abbrev pub kinds_in : List Spot → Option ℕ → Kinds
kinds_in parts None at = None
kinds_in parts (Some id) at = part_kinds parts id at

-- the part stands for what stands somewhere; no part stands for nothing
abbrev pub Stands : List Spot → Option ℕ → Kinds → Type 0
Stands parts None kinds = kinds [] ≡ None
Stands parts (Some id) kinds = IsPart parts id × ((at : Address) → kinds at ≡ part_kinds parts id at)

-- the number of elements of the array; or there is no array
abbrev pub IsLengthOf : Kinds → Option ℕ → Type 0
IsLengthOf kinds found = MatchOption found ((len : ℕ) → ¬ IsArrayOf kinds len) (IsArrayOf kinds)

-- the step of an address that a step of a place is; or there is none
abbrev pub IsStepOf : Kinds → PlaceStep → Option Step → Type 0
IsStepOf kinds s found = MatchOption found ((t : Step) → ¬ IsStep kinds s t) (IsStep kinds s)
