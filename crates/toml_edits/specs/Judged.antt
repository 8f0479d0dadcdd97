-- What an edit's value and its place are found to be, before anything is changed.
use Rattle.std.specs.Prelude.{◌≡◌, ◌⊎◌, ◌<◌, ℕ, List, [], ◌∷◌, Option, Some, None, IsSome, Result, Ok, Err}
use Rattle.toml_tree.specs.declared.profile.Profile.{Profile}
use Rattle.toml_names.specs.declared.model.address.Step.{Step}
use Rattle.toml_names.specs.declared.model.address.Step.TheVariants.{Name, Index}
use Rattle.toml_names.specs.declared.model.datum.Datum.{Datum}
use Rattle.toml_names.specs.model.Addresses.{Address}
use Rattle.toml_names.specs.model.Data.{Kinds, kind_at}
use Rattle.toml_names.specs.mentions.Mentions.{a_table, an_array}
use Rattle.toml_edits.specs.declared.fault.EditFault.{EditFault}
use Rattle.toml_edits.specs.declared.fault.EditFault.TheVariants.{BadValue, NotATable, IndexOutside, AlreadyThere, AddressLength, NoMemory}
use Rattle.toml_edits.specs.Edits.{Change}
use Rattle.toml_edits.specs.Faults.{IsTooDeep, IsFault, HasFewer}
use Rattle.toml_edits.specs.ValueTexts.{IsBadValue, IsGoodValue}

-- a text as a value at an address: its data, or why it is refused there
abbrev pub IsFitting : Profile → Address → List ℕ → Result Datum EditFault → Type 0
IsFitting profile at text (Ok d) = IsGoodValue profile text (kind_at d) × ¬ IsTooDeep profile at text
IsFitting profile at text (Err BadValue) = IsBadValue profile text
IsFitting profile at text (Err AddressLength) = (¬ IsBadValue profile text) × IsTooDeep profile at text
IsFitting profile at text (Err _) = ⊥

-- a new part at a step of what stands in the parent: none of the faults, or the first
abbrev pub IsStepFault : Step → Kinds → Option EditFault → Type 0
IsStepFault (Name n) kinds None = (kinds [] ≡ Some a_table) × (kinds (Name n ∷ []) ≡ None)
IsStepFault (Index i) kinds None = (kinds [] ≡ Some an_array) × ((j : ℕ) → j < i → IsSome (kinds (Index j ∷ [])))
IsStepFault (Name n) kinds (Some NotATable) = ¬ (kinds [] ≡ Some a_table)
IsStepFault (Name n) kinds (Some AlreadyThere) = (kinds [] ≡ Some a_table) × IsSome (kinds (Name n ∷ []))
IsStepFault (Index i) kinds (Some IndexOutside) = HasFewer kinds [] i
IsStepFault _ kinds (Some _) = ⊥

-- an edit with a text for its value: the value's data where it has no fault, or the first one, or want of memory
abbrev pub IsJudged : Profile → Change → List ℕ → Kinds → Result Datum EditFault → Type 0
IsJudged profile c text kinds (Ok d) = IsFault profile c kinds None × IsGoodValue profile text (kind_at d)
IsJudged profile c text kinds (Err x) = (x ≡ NoMemory) ⊎ IsFault profile c kinds (Some x)
