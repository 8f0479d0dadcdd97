-- The outlines of trees, and what they spell.
use Rattle.std.specs.Prelude.{◌≡◌, ℕ, List, [], ◌∷◌, ◌++◌, map, Option, Some, None, option_map}
use Rattle.toml_tree.specs.Spells.{joined, value_parts, line_parts, lines_parts}
use Rattle.toml_tree.specs.Tree.{Piece, Blank, Dotted, Assign, GapLine, Gap, Value, Scalar, Array, Inline, Items, Close, Last, More, Pairs, ClosePairs, LastPair, MorePairs, Header, BlankLine, KeyValLine, TableLine, ArrayTableLine, Line}
use Rattle.toml_layout.specs.Parts.{PartOutline, Ws, Comment, Newline}
use Rattle.toml_layout.specs.Outlines as outline
use Rattle.toml_layout.specs.Outlines.{DottedOutline, AssignOutline, ValueOutline, EntriesOutline, ExprOutline, LineOutline, value_outlined, line_outlined, lines_outlined}

-- whitespace that has a byte, and a comment, if there is one
abbrev pub ws_part : List ℕ → List PartOutline
ws_part [] = []
ws_part (b ∷ bs) = Ws (b ∷ bs) ∷ []

abbrev pub comment_part : Option Piece → List PartOutline
comment_part None = []
comment_part (Some p) = Comment p.text ∷ []

-- the parts of a gap: those of its lines, and the whitespace behind them
abbrev pub lines_with : List GapLine → List ℕ → List PartOutline
lines_with [] ws = ws_part ws
lines_with (l ∷ ls) ws = ws_part l.blank.ws.text ++ (comment_part l.blank.comment ++ Newline l.newline.text ∷ lines_with ls ws)

abbrev pub gap_outline : Gap → List PartOutline
gap_outline g = lines_with g.lines g.ws.text

abbrev pub dotted_outline : Dotted → DottedOutline
dotted_outline d = record { before_dot = d.before_dot.text; after_dot = d.after_dot.text; part = d.part.text }

abbrev pub assign_outline : Assign → AssignOutline
assign_outline a = record {
  first = a.key.first.text;
  rest = map dotted_outline a.key.rest;
  before_equals = a.before_equals.text;
  after_equals = a.after_equals.text;
}

abbrev mutual
  pub value_outline : Value → ValueOutline
  value_outline (Scalar kind p) = outline.Token p.text
  value_outline (Array whole items) = outline.Listed (0x5B ∷ []) (items_outline items)
  value_outline (Inline whole pairs) = outline.Braced (0x7B ∷ []) (pairs_outline pairs)

  pub items_outline : Items → EntriesOutline
  items_outline (Close g) = outline.End (Some (gap_outline g))
  items_outline (Last g v h) = outline.Entry (gap_outline g) None (value_outline v) (gap_outline h) (outline.End None)
  items_outline (More g v h is) = outline.Entry (gap_outline g) None (value_outline v) (gap_outline h) (items_outline is)

  pub pairs_outline : Pairs → EntriesOutline
  pairs_outline (ClosePairs g) = outline.End (Some (gap_outline g))
  pairs_outline (LastPair g a v h) =
      outline.Entry (gap_outline g) (Some (assign_outline a)) (value_outline v) (gap_outline h) (outline.End None)
  pairs_outline (MorePairs g a v h ps) =
      outline.Entry (gap_outline g) (Some (assign_outline a)) (value_outline v) (gap_outline h) (pairs_outline ps)

-- a header between so many brackets
abbrev pub header_outline : List ℕ → List ℕ → Header → ExprOutline
header_outline opening closing h =
    outline.Header opening h.before.text h.key.first.text (map dotted_outline h.key.rest) h.after.text closing

-- a line by the whitespace before what stands on it, and the blank behind that
abbrev pub line_of : List ℕ → ExprOutline → Blank → Piece → LineOutline
line_of ws e tail newline = record {
  ws = ws;
  expr = e;
  tail = tail.ws.text;
  comment = option_map (λ p. p.text) tail.comment;
  newline = newline.text;
}

abbrev pub line_outline : Line → LineOutline
line_outline l = elim l.expr [
  | BlankLine tail ↦ line_of [] outline.Nothing tail l.newline
  | KeyValLine ws pair tail ↦ line_of ws.text (outline.Pair (assign_outline pair.assign) (value_outline pair.value)) tail l.newline
  | TableLine ws h tail ↦ line_of ws.text (header_outline (0x5B ∷ []) (0x5D ∷ []) h) tail l.newline
  | ArrayTableLine ws h tail ↦ line_of ws.text (header_outline (0x5B ∷ 0x5B ∷ []) (0x5D ∷ 0x5D ∷ []) h) tail l.newline
]

-- Laws: a value, a line and lines spell the texts of their outlines, so these leave out no byte.
abbrev pub ValueIsOutlined : Type 0
ValueIsOutlined = (v : Value) → value_outlined (value_outline v) ≡ joined (value_parts v)

abbrev pub LineIsOutlined : Type 0
LineIsOutlined = (l : Line) → line_outlined (line_outline l) ≡ joined (line_parts l)

abbrev pub LinesAreOutlined : Type 0
LinesAreOutlined = (ls : List Line) → lines_outlined (map line_outline ls) ≡ joined (lines_parts ls)
