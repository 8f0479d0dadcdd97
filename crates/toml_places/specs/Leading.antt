-- The address to which a place leads in data.
use Rattle.std.specs.Prelude.{◌≡◌, ◌↔◌, ◌<◌, ◌≤◌, ◌-◌, ℕ, List, [], ◌∷◌, Option, Some, IsSome, option_and_then, MatchOption}
use Rattle.toml_names.specs.declared.model.address.Step.{Step}
use Rattle.toml_names.specs.declared.model.address.Step.TheVariants as steps
use Rattle.toml_names.specs.mentions.Mentions.{an_array}
use Rattle.toml_names.specs.model.Addresses.{Address}
use Rattle.toml_names.specs.model.Data.{Kinds}
use Rattle.toml_places.specs.declared.place.PlaceStep.{PlaceStep}
use Rattle.toml_places.specs.declared.place.PlaceStep.TheVariants.{Name, Index, FromEnd, Behind}

-- an array of so many elements
pub record IsArrayOf (kinds : Kinds) (len : ℕ) : Type 0 where
  pub array : kinds [] ≡ Some an_array
  pub elements : (i : ℕ) → IsSome (kinds (steps.Index i ∷ [])) ↔ (i < len)

-- The step of an address that a step of a place is, in what stands at the place so far: a name or an index as it stands; the n-th
-- element from the end of the array that stands there; the index behind its last.
abbrev pub IsStep : Kinds → PlaceStep → Step → Type 0
IsStep kinds (Name name) s = s ≡ steps.Name name
IsStep kinds (Index i) s = s ≡ steps.Index i
IsStep kinds (FromEnd n) s = (len : ℕ) × IsArrayOf kinds len × (0 < n) × (n ≤ len) × (s ≡ steps.Index (len - n))
IsStep kinds Behind s = (len : ℕ) × IsArrayOf kinds len × (s ≡ steps.Index len)

-- what stands at a step and below it; below nothing there is nothing
abbrev pub below_step : Step → Kinds → Kinds
below_step s kinds at = option_and_then (λ here. kinds (s ∷ at)) (kinds [])

-- what stands at an address and below it, step by step
abbrev pub below_steps : Address → Kinds → Kinds
below_steps [] kinds = kinds
below_steps (s ∷ at) kinds = below_steps at (below_step s kinds)

-- the place leads to the address, step by step
abbrev pub LeadsTo : Kinds → List PlaceStep → Address → Type 0
LeadsTo kinds [] at = at ≡ []
LeadsTo kinds (s ∷ place) at = (t : Step) × (rest : Address) × IsStep kinds s t × LeadsTo (below_step t kinds) place rest × (at ≡ t ∷ rest)

-- it leads to no address
abbrev pub LeadsNowhere : Kinds → List PlaceStep → Type 0
LeadsNowhere kinds place = (at : Address) → ¬ LeadsTo kinds place at

-- the address is the one to which the place leads, or there is none
abbrev pub IsAddressOf : Kinds → List PlaceStep → Option Address → Type 0
IsAddressOf kinds place found = MatchOption found (LeadsNowhere kinds place) (LeadsTo kinds place)
