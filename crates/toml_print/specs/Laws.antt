-- Laws: data have one tree, one tagged JSON, and one text in each form; for which floats JSON has a number.
use Rattle.std.specs.Prelude.{◌≡◌, ◌||◌, ℕ, Bool, not, List, codes}
use Rattle.std.specs.Str.{bytes_eq}
use Rattle.toml_scalar.specs.Floats.{IsFloat, float_text}
use Rattle.toml_names.specs.model.Data.{Kinds}
use Rattle.toml_print.specs.JsonTexts.{is_json_number, tagged}
use Rattle.toml_print.specs.Printed.{IsPrinted}
use Rattle.toml_print.specs.Tagged.{IsTagged}
use Rattle.toml_print.specs.Trees.{Tree, IsTreeOf}
use Rattle.toml_print.specs.declared.form.Form.{Form}

-- data have at most one tree,
abbrev pub OneTree : Type 0
OneTree = (f : Kinds) (t u : Tree) → IsTreeOf f t → IsTreeOf f u → t ≡ u

-- of which the tagged JSON is theirs;
abbrev pub TreeIsTagged : Type 0
TreeIsTagged = (f : Kinds) (t : Tree) → IsTreeOf f t → IsTagged f (tagged t)

-- and they are at most one text in a form.
abbrev pub OnePrinted : Type 0
OnePrinted = (form : Form) (f : Kinds) (one two : List ℕ) → IsPrinted form f one → IsPrinted form f two → one ≡ two

abbrev pub is_no_number : List ℕ → Bool
is_no_number v = bytes_eq v (codes "inf") || (bytes_eq v (codes "-inf") || bytes_eq v (codes "nan"))

-- JSON has a number of the text that a float stands for, unless that is `inf`, `-inf` or `nan`.
abbrev pub FloatIsNumber : Type 0
FloatIsNumber = (bs : List ℕ) → IsFloat bs → is_json_number (float_text bs) ≡ not (is_no_number (float_text bs))
