-- What is named, and the places of a tree's pieces.
use Rattle.std.specs.Prelude.{◌≡◌, ℕ, List}
use Rattle.toml_tree.specs.Bare.{bare_key, bare_value, bare_expr, bare_lines}
use Rattle.toml_tree.specs.Tree.{Key, Value, Expr, Line}
use Rattle.toml_names.specs.mentions.Keys.{key_names}
use Rattle.toml_names.specs.mentions.Mentions.{Named, named, named_by, value_facts}

-- Laws: a key has the same names wherever its parts stand, a line names the same wherever its pieces do;
abbrev pub KeyPlacesAreNotNamed : Type 0
KeyPlacesAreNotNamed = (k : Key) → key_names (bare_key k) ≡ key_names k

abbrev pub LinePlacesAreNotNamed : Type 0
LinePlacesAreNotNamed = (earlier : List Named) (line : ℕ) (e : Expr) → named_by earlier line (bare_expr e) ≡ named_by earlier line e

-- lines that are the same but for where they stand name the same,
abbrev pub PlacesAreNotNamed : Type 0
PlacesAreNotNamed = (ls ms : List Line) → bare_lines ls ≡ bare_lines ms → named ls ≡ named ms

-- and so do values.
abbrev pub ValuePlacesAreNotNamed : Type 0
ValuePlacesAreNotNamed = (v w : Value) → bare_value v ≡ bare_value w → value_facts v ≡ value_facts w
