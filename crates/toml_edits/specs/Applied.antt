-- What the call that makes an edit answers.
use Rattle.std.specs.Prelude.{◌≡◌, ◌⊎◌, Some, None}
use Rattle.toml_tree.specs.declared.profile.Profile.{Profile}
use Rattle.toml_names.specs.model.Data.{Kinds}
use Rattle.toml_edits.specs.declared.fault.EditFault.{EditFault}
use Rattle.toml_edits.specs.declared.fault.EditFault.TheVariants.{NoMemory}
use Rattle.toml_edits.specs.After.{IsAfter}
use Rattle.toml_edits.specs.Edits.{Change}
use Rattle.toml_edits.specs.Faults.{IsFault}

-- the edit has no fault on the old data, and the new ones are what it makes of them
abbrev pub IsApplied : Profile → Change → Kinds → Kinds → Type 0
IsApplied profile c old new = IsFault profile c old None × IsAfter profile c old new

-- there was no memory, or the edit has this fault
abbrev pub IsRefused : Profile → Change → Kinds → EditFault → Type 0
IsRefused profile c old x = (x ≡ NoMemory) ⊎ IsFault profile c old (Some x)
