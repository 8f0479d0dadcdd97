-- The tree of a parsed value and of a parsed pair, by what the code's value holds.
use Rattle.std.specs.Prelude.{◌≡◌, map}
use Rattle.std.specs.Global.{Box}
use Rattle.toml_scalar.specs.declared.kind.ScalarKind.{ScalarKind}
use Rattle.toml_tree.specs.Tree as tree
use Rattle.toml_tree.specs.View.{piece, assign, value, element, member, keyval, array_items, table_pairs}
use Rattle.toml_tree.specs.declared.piece.Piece.{Piece}
use Rattle.toml_tree.specs.declared.tree.Array.{Array}
use Rattle.toml_tree.specs.declared.tree.InlineTable.{InlineTable}
use Rattle.toml_tree.specs.declared.tree.KeyVal.{KeyVal}
use Rattle.toml_tree.specs.declared.tree.Value.TheVariants as made
use Rattle.toml_tree.specs.declared.tree.Value.TheViews.{out-Array, out-InlineTable, out-KeyVal}

-- a scalar by its kind and its piece
abbrev pub ViewOfScalar : Type 0
ViewOfScalar = (kind : ScalarKind) (p : Piece) → value (made.Scalar kind p) ≡ tree.Scalar kind (piece p)

-- an array by its piece, its items and what stands behind the last
abbrev pub ViewOfArray : Type 0
ViewOfArray = (b : Box Array) → value (made.Array b) ≡ tree.Array (piece (out-Array b.value).whole) (array_items (map element (out-Array b.value).items.items) (out-Array b.value).end)

-- an inline table by its piece, its pairs and what stands behind the last
abbrev pub ViewOfInline : Type 0
ViewOfInline = (b : Box InlineTable) → value (made.Inline b) ≡ tree.Inline (piece (out-InlineTable b.value).whole) (table_pairs (map member (out-InlineTable b.value).pairs.items) (out-InlineTable b.value).end)

-- a pair by its key and its value
abbrev pub ViewOfKeyVal : Type 0
ViewOfKeyVal = (k : KeyVal) → keyval k ≡ record { assign = assign (out-KeyVal k).assign; value = value (out-KeyVal k).value }
