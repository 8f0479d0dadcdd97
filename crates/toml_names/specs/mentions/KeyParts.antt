-- How many key parts stand in a text.
use Rattle.std.specs.Prelude.{ℕ, ◌+◌, List, [], ◌∷◌, length}
use Rattle.toml_tree.specs.Tree.{Assign, Value, Scalar, Array, Inline, Items, Close, Last, More, Pairs, ClosePairs, LastPair, MorePairs, Expr, BlankLine, KeyValLine, TableLine, ArrayTableLine, Line}
use Rattle.toml_names.specs.mentions.Keys.{key_names}

abbrev mutual
  pub value_key_parts : Value → ℕ
  value_key_parts (Scalar kind p) = 0
  value_key_parts (Array whole items) = item_key_parts items
  value_key_parts (Inline whole pairs) = pair_key_parts pairs

  pub item_key_parts : Items → ℕ
  item_key_parts (Close g) = 0
  item_key_parts (Last g v h) = value_key_parts v
  item_key_parts (More g v h is) = value_key_parts v + item_key_parts is

  pub pair_key_parts : Pairs → ℕ
  pair_key_parts (ClosePairs g) = 0
  pair_key_parts (LastPair g a v h) = length (key_names a.key) + value_key_parts v
  pair_key_parts (MorePairs g a v h ps) = (length (key_names a.key) + value_key_parts v) + pair_key_parts ps

abbrev pub keyval_key_parts : Assign → Value → ℕ
keyval_key_parts a v = length (key_names a.key) + value_key_parts v

abbrev pub expr_key_parts : Expr → ℕ
expr_key_parts (BlankLine b) = 0
expr_key_parts (KeyValLine ws pair tail) = keyval_key_parts pair.assign pair.value
expr_key_parts (TableLine ws header tail) = length (key_names header.key)
expr_key_parts (ArrayTableLine ws header tail) = length (key_names header.key)

abbrev pub all_key_parts : List Line → ℕ
all_key_parts [] = 0
all_key_parts (l ∷ ls) = expr_key_parts l.expr + all_key_parts ls
