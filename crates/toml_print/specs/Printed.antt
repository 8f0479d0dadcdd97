-- What is printed of what stands at a place of data.
use Rattle.std.specs.Prelude.{◌≡◌, ◌++◌, ℕ, List, [], Option, None, Some, MatchOption, Vec, codes}
use Rattle.std.specs.declared.alloc.Global.{Global}
use Rattle.serde_json.specs.Written.{compact_text}
use Rattle.toml_names.specs.mentions.Mentions.{Kind, a_table, an_array, a_scalar}
use Rattle.toml_names.specs.model.Addresses.{Address}
use Rattle.toml_names.specs.model.Data.{Kinds, IsClosed}
use Rattle.toml_places.specs.Leading.{LeadsTo}
use Rattle.toml_places.specs.declared.place.PlaceStep.{PlaceStep}
use Rattle.toml_print.specs.JsonTexts.{json_text, tagged}
use Rattle.toml_print.specs.Tagged.{tag_of, text_of}
use Rattle.toml_print.specs.Trees.{Tree, scalar, array, table, IsTreeOf}
use Rattle.toml_print.specs.declared.form.Form.{Form}
use Rattle.toml_print.specs.declared.form.Form.TheVariants.{Plain, Json, Tagged, TypeName}

-- the name of a type
abbrev pub type_name : Kind → List ℕ
type_name a_table = codes "table"
type_name an_array = codes "array"
type_name (a_scalar v) = tag_of v

-- a scalar's text alone, and else JSON
abbrev pub plain_text : Tree → List ℕ
plain_text (scalar v) = text_of v
plain_text (array ts) = json_text (array ts)
plain_text (table ms) = json_text (table ms)

abbrev pub tagged_text : Tree → List ℕ
tagged_text t = compact_text (tagged t)

-- the bytes are what is written of the data
pub record IsTextOf (write : Tree → List ℕ) (kinds : Kinds) (text : List ℕ) : Type 0 where
  pub tree : Tree
  pub of_data : IsTreeOf kinds tree
  pub is : text ≡ write tree

-- the bytes are the data in a form
abbrev pub IsPrinted : Form → Kinds → List ℕ → Type 0
IsPrinted Plain kinds text = IsTextOf plain_text kinds text
IsPrinted Json kinds text = IsTextOf json_text kinds text
IsPrinted Tagged kinds text = IsTextOf tagged_text kinds text
IsPrinted TypeName kinds text = (k : Kind) × (kinds [] ≡ Some k) × (text ≡ type_name k)

-- what stands at the address, and below it
abbrev pub standing : Kinds → Address → Kinds
standing kinds at rest = kinds (at ++ rest)

-- nothing stands at the place in the data
abbrev pub NothingAt : Kinds → List PlaceStep → Type 0
NothingAt kinds place = (at : Address) → LeadsTo kinds place at → kinds at ≡ None

-- the bytes are what stands at the place, in a form
abbrev pub PrintsAt : Form → Kinds → List PlaceStep → List ℕ → Type 0
PrintsAt form kinds place text = (at : Address) × LeadsTo kinds place at × IsPrinted form (standing kinds at) text

-- what stands at the place of data in which nothing stands below nothing, in a form; or nothing does
abbrev pub IsPrintedAt : Form → Kinds → List PlaceStep → Option (Vec ℕ Global) → Type 0
IsPrintedAt form kinds place found = IsClosed kinds → MatchOption found (NothingAt kinds place) (λ text. PrintsAt form kinds place text.items)
