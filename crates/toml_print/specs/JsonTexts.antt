-- Data as the compact text of JSON, and as tagged JSON.
use Rattle.std.specs.Prelude.{ℕ, Bool, true, false, if◌then◌else◌, List, ◌∷◌, ◌++◌, [], Option, Some, None, codes}
use Rattle.std.specs.Fmt.{signed_decimal}
use Rattle.json.specs.Print.{quoted}
use Rattle.json.specs.Word.{after_number}
use Rattle.serde_json.specs.Data as json
use Rattle.serde_json.specs.Written.{comma_if, compact_text}
use Rattle.toml_scalar.specs.Values.{ScalarValue, Text, Integer, Float, Boolean, Moment}
use Rattle.toml_print.specs.Tagged.{tag_of, text_of, told}
use Rattle.toml_print.specs.Trees.{Tree, scalar, array, table, Items, no_items, item, Members, no_members, member}
use Rattle.toml_print.specs.declared.style.Style.{Style}
use Rattle.toml_print.specs.declared.style.Style.TheVariants as styles

-- whether something was read, and nothing is left behind it
abbrev pub is_used_up : Option (List ℕ) → Bool
is_used_up None = false
is_used_up (Some []) = true
is_used_up (Some (b ∷ bs)) = false

-- whether JSON has this number: of the floats all but `inf`, `-inf` and `nan` (the law `FloatIsNumber`)
abbrev pub is_json_number : List ℕ → Bool
is_json_number v = is_used_up (after_number v)

abbrev pub float_json : List ℕ → List ℕ
float_json v = if is_json_number v then v else quoted v

-- a scalar in JSON: a string, a date or a time as a string; an integer in decimal; a float by its text, as a string where JSON has
-- no number for it; a boolean
abbrev pub json_scalar : ScalarValue → List ℕ
json_scalar (Text v) = quoted v
json_scalar (Integer n) = signed_decimal n
json_scalar (Float v) = float_json v
json_scalar (Boolean true) = codes "true"
json_scalar (Boolean false) = codes "false"
json_scalar (Moment kind v) = quoted v

-- a scalar in tagged JSON
abbrev pub tagged_scalar : ScalarValue → List ℕ
tagged_scalar v = compact_text (json.object (told (tag_of v) (text_of v)))

abbrev mutual
  -- The compact text of JSON in which scalars are written so: a list for an array, an object for a table.
  pub text_with : (ScalarValue → List ℕ) → Tree → List ℕ
  text_with write (scalar v) = write v
  text_with write (array ts) = 0x5B ∷ items_with write false ts
  text_with write (table ms) = 0x7B ∷ members_with write false ms

  -- with the closing bracket, and a comma before each but the first
  pub items_with : (ScalarValue → List ℕ) → Bool → Items → List ℕ
  items_with write later no_items = 0x5D ∷ []
  items_with write later (item t ts) = comma_if later ++ (text_with write t ++ items_with write true ts)

  pub members_with : (ScalarValue → List ℕ) → Bool → Members → List ℕ
  members_with write later no_members = 0x7D ∷ []
  members_with write later (member n t ms) = comma_if later ++ (quoted n ++ 0x3A ∷ (text_with write t ++ members_with write true ms))

abbrev pub json_text : Tree → List ℕ
json_text = text_with json_scalar

abbrev mutual
  -- the tagged JSON of the data
  pub tagged : Tree → json.Data
  tagged (scalar v) = json.object (told (tag_of v) (text_of v))
  tagged (array ts) = json.array (tagged_items ts)
  tagged (table ms) = json.object (tagged_members ms)

  pub tagged_items : Items → json.Items
  tagged_items no_items = json.no_items
  tagged_items (item t ts) = json.item (tagged t) (tagged_items ts)

  pub tagged_members : Members → json.Members
  tagged_members no_members = json.no_members
  tagged_members (member n t ms) = json.member n (tagged t) (tagged_members ms)

-- how scalars are written in a style
abbrev pub scalar_text : Style → ScalarValue → List ℕ
scalar_text styles.Plain v = json_scalar v
scalar_text styles.Tagged v = tagged_scalar v
