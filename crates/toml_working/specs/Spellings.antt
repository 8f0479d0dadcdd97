-- The spellings of the steps of an address.
use Rattle.std.specs.Prelude.{◌≡◌, ℕ, List, [], map, string_bytes}
use Rattle.std.specs.declared.alloc.Global.{Global}
use Rattle.std.specs.declared.string.String.{String}
use Rattle.toml_scalar.specs.Spelling.{spelled}
use Rattle.toml_names.specs.declared.model.address.Step.{Step}
use Rattle.toml_names.specs.declared.model.address.Step.TheVariants.{Name, Index}
use Rattle.toml_names.specs.model.Addresses.{Address}

-- a step is spelled by its name; an index has no bytes
abbrev pub step_spelled : Step → List ℕ
step_spelled (Name name) = spelled name
step_spelled (Index index) = []

-- those of an address
abbrev pub AreSteps : Address → List (String Global) → Type 0
AreSteps at steps = map string_bytes steps ≡ map step_spelled at
