-- The piece that a value, a pair or an expression takes: where it begins, and its text.
use Rattle.std.specs.Prelude.{◌≡◌, ◌<◌, ℕ, length}
use Rattle.toml_tree.specs.Spells.{Placed, joined, value_parts, keyval_parts, expr_parts, IsValue}
use Rattle.toml_tree.specs.Tree.{Piece, Value, Scalar, Array, Inline, KeyVal, Expr, BlankLine, KeyValLine, TableLine, ArrayTableLine}

-- the piece that a value is written by
abbrev pub piece_of : Value → Piece
piece_of (Scalar kind p) = p
piece_of (Array whole items) = whole
piece_of (Inline whole pairs) = whole

-- a pair begins with the first part of its key
abbrev pub keyval_piece : KeyVal → Piece
keyval_piece k = record { start = k.assign.key.first.start; text = joined (keyval_parts k) }

-- an expression begins with its first whitespace
abbrev pub expr_start : Expr → ℕ
expr_start (BlankLine b) = b.ws.start
expr_start (KeyValLine ws k b) = ws.start
expr_start (TableLine ws h b) = ws.start
expr_start (ArrayTableLine ws h b) = ws.start

abbrev pub expr_piece : Expr → Piece
expr_piece e = record { start = expr_start e; text = joined (expr_parts e) }

-- of a value in its form the piece's text is the text of the parts
abbrev pub ValuePieceIsText : Type 0
ValuePieceIsText = (v : Value) → IsValue v → (piece_of v).text ≡ joined (value_parts v)

-- a value has a byte
abbrev pub ValueHasByte : Type 0
ValueHasByte = (v : Value) → IsValue v → 0 < length (piece_of v).text

-- where the parts stand, the piece begins
abbrev pub ValueStartsThere : Type 0
ValueStartsThere = (v : Value) (at : ℕ) → Placed at (value_parts v) → (piece_of v).start ≡ at

abbrev pub KeyValStartsThere : Type 0
KeyValStartsThere = (k : KeyVal) (at : ℕ) → Placed at (keyval_parts k) → (keyval_piece k).start ≡ at

abbrev pub ExprStartsThere : Type 0
ExprStartsThere = (e : Expr) (at : ℕ) → Placed at (expr_parts e) → (expr_piece e).start ≡ at
