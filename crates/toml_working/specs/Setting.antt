-- `set`: the value at the address becomes the new one.
use Rattle.std.specs.Prelude.{◌≡◌, ℕ, ◌+◌, List, [], ◌∷◌, if◌then◌else◌}
use Rattle.toml_tree.specs.Tree.{Value, Scalar, Array, Inline, Items, Close, Last, More, Pairs, ClosePairs, LastPair, MorePairs, Expr, BlankLine, KeyValLine, TableLine, ArrayTableLine, Line}
use Rattle.toml_names.specs.model.Addresses.{Address, same_address, element, below}
use Rattle.toml_names.specs.mentions.Keys.{key_names}
use Rattle.toml_names.specs.mentions.Mentions.{Named, section}
use Rattle.toml_layout.specs.SetOutlines.{set_outline}
use Rattle.toml_layout.specs.TreeOutlines.{value_outline}
use Rattle.toml_working.specs.Lines.{array_of, inline_of, each_line}

-- a value that stands at `at`, or the new one where that is `p`
abbrev pub set_at : Address → Value → Address → Value → Value
set_at p new at v = if same_address at p then new else v

-- what stands in a value
abbrev mutual
  pub set_within : Address → Value → Address → Value → Value
  set_within p new at (Scalar kind text) = Scalar kind text
  set_within p new at (Array whole items) = array_of (set_items p new at 0 items)
  set_within p new at (Inline whole pairs) = inline_of (set_pairs p new at pairs)

  pub set_items : Address → Value → Address → ℕ → Items → Items
  set_items p new at i (Close g) = Close g
  set_items p new at i (Last g v h) = Last g (set_at p new (element at i) (set_within p new (element at i) v)) h
  set_items p new at i (More g v h is) = More g (set_at p new (element at i) (set_within p new (element at i) v)) h (set_items p new at (i + 1) is)

  pub set_pairs : Address → Value → Address → Pairs → Pairs
  set_pairs p new at (ClosePairs g) = ClosePairs g
  set_pairs p new at (LastPair g a v h) = LastPair g a (set_at p new (below at (key_names a.key)) (set_within p new (below at (key_names a.key)) v)) h
  set_pairs p new at (MorePairs g a v h ps) = MorePairs g a (set_at p new (below at (key_names a.key)) (set_within p new (below at (key_names a.key)) v)) h (set_pairs p new at ps)

abbrev pub set_value : Address → Value → Address → Value → Value
set_value p new at v = set_at p new at (set_within p new at v)

-- a line in the table at `at`
abbrev pub set_expr : Address → Value → Address → Expr → Expr
set_expr p new at (BlankLine b) = BlankLine b
set_expr p new at (KeyValLine ws pair tail) = KeyValLine ws (record { assign = pair.assign; value = set_value p new (below at (key_names pair.assign.key)) pair.value }) tail
set_expr p new at (TableLine ws header tail) = TableLine ws header tail
set_expr p new at (ArrayTableLine ws header tail) = ArrayTableLine ws header tail

abbrev pub set_line : Address → Value → List Named → Line → List Line
set_line p new earlier l = record { expr = set_expr p new (section earlier) l.expr; newline = l.newline } ∷ []

abbrev pub set_lines : Address → Value → List Line → List Line
set_lines p new = each_line (set_line p new)

-- Law: the outline of the tree after a `set` is what the `set` makes of the outline.
abbrev pub SetIsOutlined : Type 0
SetIsOutlined = (p : Address) (new : Value) (at : Address) (v : Value)
    → value_outline (set_value p new at v) ≡ set_outline p (value_outline new) at (value_outline v)
