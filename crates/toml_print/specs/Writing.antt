-- Words of the code's own contracts: what is written behind what was written before.
use Rattle.std.specs.Prelude.{◌≡◌, ◌++◌, ℕ, List}
use Rattle.toml_scalar.specs.Values.{ScalarValue}
use Rattle.toml_names.specs.model.Data.{Kinds}
use Rattle.toml_print.specs.JsonTexts.{text_with}
use Rattle.toml_print.specs.Printed.{IsPrinted}
use Rattle.toml_print.specs.Trees.{Tree, IsTreeOf}
use Rattle.toml_print.specs.declared.form.Form.{Form}

-- the bytes grow by the JSON of the data, in which scalars are written so
pub record Writes (write : ScalarValue → List ℕ) (kinds : Kinds) (old new : List ℕ) : Type 0 where
  pub tree : Tree
  pub of_data : IsTreeOf kinds tree
  pub is : new ≡ old ++ text_with write tree

-- the bytes grow by the data in a form
abbrev pub PrintsBehind : Form → Kinds → List ℕ → List ℕ → Type 0
PrintsBehind form kinds old new = (text : List ℕ) × IsPrinted form kinds text × (new ≡ old ++ text)
