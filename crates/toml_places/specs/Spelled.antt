-- How an address is spelled as a place.
use Rattle.std.specs.Prelude.{ℕ, List, [], ◌∷◌, ◌++◌, Option, Some, None, decimal}
use Rattle.std.specs.List.{flat_map}
use Rattle.toml_scalar.specs.Spelling.{spelled}
use Rattle.toml_names.specs.declared.model.address.Step.{Step}
use Rattle.toml_names.specs.declared.model.address.Step.TheVariants as steps
use Rattle.toml_names.specs.model.Addresses.{Address}
use Rattle.toml_places.specs.declared.place.PlaceStep.{PlaceStep}
use Rattle.toml_places.specs.declared.place.PlaceStep.TheVariants.{Name, Index}

-- a step behind the first: a dot and a name, or an index in brackets
abbrev pub step_text : Step → List ℕ
step_text (steps.Name name) = 0x2E ∷ spelled name
step_text (steps.Index i) = 0x5B ∷ (decimal i ++ 0x5D ∷ [])

-- the text of an address; one that begins with an index has none
abbrev pub place_text : Address → Option (List ℕ)
place_text [] = Some (0x2E ∷ [])
place_text (steps.Name name ∷ at) = Some (spelled name ++ flat_map step_text at)
place_text (steps.Index i ∷ at) = None

-- the same step as a step of a place
abbrev pub plain_step : Step → PlaceStep
plain_step (steps.Name name) = Name name
plain_step (steps.Index i) = Index i
