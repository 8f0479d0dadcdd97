-- What stands inside a tree that spells a text spells its own text at its own place.
use Rattle.std.specs.Prelude.{◌≡◌, ◌⊎◌, ℕ, List}
use Rattle.toml_tree.specs.Laws.{IsIn}
use Rattle.toml_tree.specs.Pieces.{piece_of, keyval_piece, expr_piece}
use Rattle.toml_tree.specs.Spells.{EachIs, SpellLines, SpellsValue, SpellsKeyVal, SpellsExpr}
use Rattle.toml_tree.specs.Tree.{Piece, Blank, Value, Scalar, Array, Inline, Pairs, ClosePairs, LastPair, MorePairs, KeyVal, Expr, KeyValLine, Line}

-- a value spells the text of its piece, from where the piece begins
abbrev pub SpellsItself : Value → Type 0
SpellsItself v = SpellsValue v (piece_of v).start (piece_of v).text

-- the same of a pair, and of an expression
abbrev pub KeyValSpellsItself : KeyVal → Type 0
KeyValSpellsItself k = SpellsKeyVal k (keyval_piece k).start (keyval_piece k).text

abbrev pub ExprSpellsItself : Expr → Type 0
ExprSpellsItself e = SpellsExpr e (expr_piece e).start (expr_piece e).text

-- a pair of an inline table
abbrev pub IsKeyValOf : KeyVal → Pairs → Type 0
IsKeyValOf k (ClosePairs g) = ⊥
IsKeyValOf k (LastPair g a v h) = k ≡ record { assign = a; value = v }
IsKeyValOf k (MorePairs g a v h ps) = (k ≡ record { assign = a; value = v }) ⊎ IsKeyValOf k ps

abbrev pub IsKeyValIn : KeyVal → Value → Type 0
IsKeyValIn k (Scalar kind p) = ⊥
IsKeyValIn k (Array whole is) = ⊥
IsKeyValIn k (Inline whole ps) = IsKeyValOf k ps

-- each line's expression spells itself
abbrev pub LinesInside : Type 0
LinesInside = (lines : List Line) (at : ℕ) (text : List ℕ) → SpellLines lines at text → EachIs (λ l. ExprSpellsItself l.expr) lines

-- the pair of a line
abbrev pub KeyValInside : Type 0
KeyValInside = (ws : Piece) (k : KeyVal) (tail : Blank) (at : ℕ) (text : List ℕ) → SpellsExpr (KeyValLine ws k tail) at text → KeyValSpellsItself k

-- the value of a pair
abbrev pub ValueOfKeyVal : Type 0
ValueOfKeyVal = (k : KeyVal) (at : ℕ) (text : List ℕ) → SpellsKeyVal k at text → SpellsItself k.value

-- each value in a value
abbrev pub ValuesInside : Type 0
ValuesInside = (v w : Value) (at : ℕ) (text : List ℕ) → SpellsValue v at text → IsIn w v → SpellsItself w

-- each pair of an inline table
abbrev pub KeyValsInside : Type 0
KeyValsInside = (v : Value) (k : KeyVal) (at : ℕ) (text : List ℕ) → SpellsValue v at text → IsKeyValIn k v → KeyValSpellsItself k
