-- The tree of a text: its pieces, each with its bytes and the place of its first byte, without where it lies in memory.
use Rattle.std.specs.Prelude.{ℕ, List, Option}
use Rattle.toml_scalar.specs.declared.kind.ScalarKind.{ScalarKind}

pub record Piece : Type 0 where
  pub start : ℕ
  pub text : List ℕ

-- whitespace, and a comment or none
pub record Blank : Type 0 where
  pub ws : Piece
  pub comment : Option Piece

-- `.` between whitespace, and the key part behind it
pub record Dotted : Type 0 where
  pub before_dot : Piece
  pub after_dot : Piece
  pub part : Piece

-- a key by its parts
pub record Key : Type 0 where
  pub first : Piece
  pub rest : List Dotted

-- a key, and `=` between whitespace
pub record Assign : Type 0 where
  pub key : Key
  pub before_equals : Piece
  pub after_equals : Piece

-- a line inside an array or an inline table
pub record GapLine : Type 0 where
  pub blank : Blank
  pub newline : Piece

-- what may stand before and behind a value of an array, or a pair of an inline table
pub record Gap : Type 0 where
  pub lines : List GapLine
  pub ws : Piece

-- A value. An array and an inline table have their own piece, from bracket to bracket.
mutual
  pub data Value : Type 0 where
    Scalar : ScalarKind → Piece → Value
    Array : Piece → Items → Value
    Inline : Piece → Pairs → Value

  -- what stands behind `[`, or behind a comma
  pub data Items : Type 0 where
    Close : Gap → Items
    Last : Gap → Value → Gap → Items
    More : Gap → Value → Gap → Items → Items

  -- what stands behind `{`, or behind a comma
  pub data Pairs : Type 0 where
    ClosePairs : Gap → Pairs
    LastPair : Gap → Assign → Value → Gap → Pairs
    MorePairs : Gap → Assign → Value → Gap → Pairs → Pairs

pub record KeyVal : Type 0 where
  pub assign : Assign
  pub value : Value

-- a header between its brackets
pub record Header : Type 0 where
  pub before : Piece
  pub key : Key
  pub after : Piece

-- the expression of a line: blank, a pair, `[..]` or `[[..]]`
pub data Expr : Type 0 where
  BlankLine : Blank → Expr
  KeyValLine : Piece → KeyVal → Blank → Expr
  TableLine : Piece → Header → Blank → Expr
  ArrayTableLine : Piece → Header → Blank → Expr

-- an expression and the newline that ends it, which is empty at the last line
pub record Line : Type 0 where
  pub expr : Expr
  pub newline : Piece

-- the mark U+FEFF or nothing, and the lines
pub record Doc : Type 0 where
  pub mark : Piece
  pub lines : List Line
