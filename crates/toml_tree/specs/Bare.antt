-- A tree without places: each piece is as if it stood at 0. Two trees that differ in their places alone are one without them.
use Rattle.std.specs.Prelude.{◌≡◌, ◌↔◌, ℕ, List, map, Option, Some, None}
use Rattle.toml_tree.specs.Profiles.{IsValueOfProfile, AreLinesOfProfile}
use Rattle.toml_tree.specs.Spells.{joined, items_parts, pairs_parts, value_parts, lines_parts}
use Rattle.toml_tree.specs.Tree.{Piece, Blank, Dotted, Key, Assign, GapLine, Gap, Value, Scalar, Array, Inline, Items, Close, Last, More, Pairs, ClosePairs, LastPair, MorePairs, KeyVal, Header, Expr, BlankLine, KeyValLine, TableLine, ArrayTableLine, Line}
use Rattle.toml_tree.specs.declared.profile.Profile.{Profile}

-- a piece of a text, without its place
abbrev pub fresh : List ℕ → Piece
fresh text = record { start = 0; text = text }

abbrev pub bare : Piece → Piece
bare p = fresh p.text

-- the same of what is made of pieces
abbrev pub bare_comment : Option Piece → Option Piece
bare_comment None = None
bare_comment (Some p) = Some (bare p)

abbrev pub bare_blank : Blank → Blank
bare_blank b = record { ws = bare b.ws; comment = bare_comment b.comment }

abbrev pub bare_dotted : Dotted → Dotted
bare_dotted d = record { before_dot = bare d.before_dot; after_dot = bare d.after_dot; part = bare d.part }

abbrev pub bare_key : Key → Key
bare_key k = record { first = bare k.first; rest = map bare_dotted k.rest }

abbrev pub bare_assign : Assign → Assign
bare_assign a = record { key = bare_key a.key; before_equals = bare a.before_equals; after_equals = bare a.after_equals }

abbrev pub bare_gap_line : GapLine → GapLine
bare_gap_line l = record { blank = bare_blank l.blank; newline = bare l.newline }

abbrev pub bare_gap : Gap → Gap
bare_gap g = record { lines = map bare_gap_line g.lines; ws = bare g.ws }

abbrev mutual
  pub bare_value : Value → Value
  bare_value (Scalar kind p) = Scalar kind (bare p)
  bare_value (Array whole items) = Array (bare whole) (bare_items items)
  bare_value (Inline whole pairs) = Inline (bare whole) (bare_pairs pairs)

  pub bare_items : Items → Items
  bare_items (Close g) = Close (bare_gap g)
  bare_items (Last g v h) = Last (bare_gap g) (bare_value v) (bare_gap h)
  bare_items (More g v h is) = More (bare_gap g) (bare_value v) (bare_gap h) (bare_items is)

  pub bare_pairs : Pairs → Pairs
  bare_pairs (ClosePairs g) = ClosePairs (bare_gap g)
  bare_pairs (LastPair g a v h) = LastPair (bare_gap g) (bare_assign a) (bare_value v) (bare_gap h)
  bare_pairs (MorePairs g a v h ps) = MorePairs (bare_gap g) (bare_assign a) (bare_value v) (bare_gap h) (bare_pairs ps)

abbrev pub bare_keyval : KeyVal → KeyVal
bare_keyval k = record { assign = bare_assign k.assign; value = bare_value k.value }

abbrev pub bare_header : Header → Header
bare_header h = record { before = bare h.before; key = bare_key h.key; after = bare h.after }

abbrev pub bare_expr : Expr → Expr
bare_expr (BlankLine b) = BlankLine (bare_blank b)
bare_expr (KeyValLine ws k b) = KeyValLine (bare ws) (bare_keyval k) (bare_blank b)
bare_expr (TableLine ws h b) = TableLine (bare ws) (bare_header h) (bare_blank b)
bare_expr (ArrayTableLine ws h b) = ArrayTableLine (bare ws) (bare_header h) (bare_blank b)

abbrev pub bare_line : Line → Line
bare_line l = record { expr = bare_expr l.expr; newline = bare l.newline }

abbrev pub bare_lines : List Line → List Line
bare_lines = map bare_line

-- without its places a tree has the same text
abbrev pub BareValueText : Type 0
BareValueText = (v : Value) → joined (value_parts (bare_value v)) ≡ joined (value_parts v)

abbrev pub BareItemsText : Type 0
BareItemsText = (items : Items) → joined (items_parts (bare_items items)) ≡ joined (items_parts items)

abbrev pub BarePairsText : Type 0
BarePairsText = (pairs : Pairs) → joined (pairs_parts (bare_pairs pairs)) ≡ joined (pairs_parts pairs)

abbrev pub BareLinesText : Type 0
BareLinesText = (lines : List Line) → joined (lines_parts (bare_lines lines)) ≡ joined (lines_parts lines)

-- a tree is of a profile exactly where it is without its places
abbrev pub BareValueOfProfile : Type 0
BareValueOfProfile = (profile : Profile) (v : Value) → IsValueOfProfile profile v ↔ IsValueOfProfile profile (bare_value v)

abbrev pub BareLinesOfProfile : Type 0
BareLinesOfProfile = (profile : Profile) (lines : List Line) → AreLinesOfProfile profile lines ↔ AreLinesOfProfile profile (bare_lines lines)
