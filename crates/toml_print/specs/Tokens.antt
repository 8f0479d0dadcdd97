-- Data as the tokens of JSON.
use Rattle.std.specs.Prelude.{◌≡◌, ◌++◌, ℕ, List, [], ◌∷◌, if◌then◌else◌, codes}
use Rattle.std.specs.Fmt.{signed_decimal}
use Rattle.json.specs.Token.{Token, begin_object, end_object, begin_array, end_array, key, string, number, boolean}
use Rattle.json.specs.Written.{Written}
use Rattle.toml_scalar.specs.Values.{ScalarValue, Text, Integer, Float, Boolean, Moment}
use Rattle.toml_names.specs.model.Data.{Kinds}
use Rattle.toml_print.specs.JsonTexts.{is_json_number}
use Rattle.toml_print.specs.Tagged.{tag_of, text_of}
use Rattle.toml_print.specs.Trees.{Tree, scalar, array, table, Items, no_items, item, Members, no_members, member, IsTreeOf}
use Rattle.toml_print.specs.declared.style.Style.{Style}
use Rattle.toml_print.specs.declared.style.Style.TheVariants as styles

abbrev pub float_token : List ℕ → Token
float_token v = if is_json_number v then number v else string v

abbrev pub json_token : ScalarValue → Token
json_token (Text v) = string v
json_token (Integer n) = number (signed_decimal n)
json_token (Float v) = float_token v
json_token (Boolean b) = boolean b
json_token (Moment kind v) = string v

-- a type and a text
abbrev pub told_tokens : List ℕ → List ℕ → List Token
told_tokens tag text = begin_object ∷ key (codes "type") ∷ string tag ∷ key (codes "value") ∷ string text ∷ end_object ∷ []

-- a scalar in a style
abbrev pub scalar_tokens : Style → ScalarValue → List Token
scalar_tokens styles.Plain v = json_token v ∷ []
scalar_tokens styles.Tagged v = told_tokens (tag_of v) (text_of v)

abbrev mutual
  -- a list for an array, an object for a table
  pub tree_tokens : Style → Tree → List Token
  tree_tokens style (scalar v) = scalar_tokens style v
  tree_tokens style (array ts) = begin_array ∷ items_tokens style ts
  tree_tokens style (table ms) = begin_object ∷ members_tokens style ms

  -- with the closing bracket
  pub items_tokens : Style → Items → List Token
  items_tokens style no_items = end_array ∷ []
  items_tokens style (item t ts) = tree_tokens style t ++ items_tokens style ts

  pub members_tokens : Style → Members → List Token
  members_tokens style no_members = end_object ∷ []
  members_tokens style (member n t ms) = key n ∷ (tree_tokens style t ++ members_tokens style ms)

-- what a writer has grows by these tokens
abbrev pub WritesTokens : List Token → Written → Written → Type 0
WritesTokens ts old new = (new.before ≡ old.before) × (new.tokens ≡ old.tokens ++ ts)

-- it grows by the tokens of the data
pub record WritesTree (style : Style) (kinds : Kinds) (old new : Written) : Type 0 where
  pub tree : Tree
  pub of_data : IsTreeOf kinds tree
  pub writes : WritesTokens (tree_tokens style tree) old new
