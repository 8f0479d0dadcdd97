-- What is written of data.
use Rattle.std.specs.Prelude.{◌≡◌, ◌++◌, ℕ, List}
use Rattle.serde_json.specs.Data.{Data}
use Rattle.serde_json.specs.Written.{compact_text}
use Rattle.toml_names.specs.model.Data.{Kinds}
use Rattle.toml_print.specs.Tagged.{IsTagged}

-- the bytes grow by the compact text of the data's tagged JSON
pub record WritesTagged (kinds : Kinds) (old new : List ℕ) : Type 0 where
  pub json : Data
  pub tagged : IsTagged kinds json
  pub is : new ≡ old ++ compact_text json
