-- Tables in which no table stands.
use Rattle.std.specs.Prelude.{◌≡◌, ◌∷◌, Option, Some}
use Rattle.toml_names.specs.declared.model.address.Step.{Step}
use Rattle.toml_names.specs.declared.model.datum.Datum.{Datum}
use Rattle.toml_names.specs.mentions.Mentions.{a_table}
use Rattle.toml_names.specs.model.Addresses.{Address}
use Rattle.toml_names.specs.model.Data.{kind_in}

-- no table stands below what was found
abbrev pub IsFlat : Option Datum → Type 0
IsFlat found = (s : Step) (a : Address) → ¬ (kind_in found (s ∷ a) ≡ Some a_table)
