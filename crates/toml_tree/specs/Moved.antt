-- A tree that stands further behind by some bytes: the same, at another place.
use Rattle.std.specs.Prelude.{◌≡◌, ◌↔◌, ℕ, ◌+◌, List, map, option_map}
use Rattle.toml_tree.specs.Spells.{joined, value_parts, keyval_parts, expr_parts, SpellsValue, SpellsKeyVal, SpellsExpr}
use Rattle.toml_tree.specs.Tree.{Piece, Blank, Dotted, Key, Assign, GapLine, Gap, Value, Scalar, Array, Inline, Items, Close, Last, More, Pairs, ClosePairs, LastPair, MorePairs, KeyVal, Header, Expr, BlankLine, KeyValLine, TableLine, ArrayTableLine}

-- a piece that starts n further behind, and what is made of such pieces
module _ (n : ℕ) where
  abbrev pub moved_piece : Piece → Piece
  moved_piece p = record { start = p.start + n; text = p.text }

  abbrev pub moved_blank : Blank → Blank
  moved_blank b = record { ws = moved_piece b.ws; comment = option_map moved_piece b.comment }

  abbrev pub moved_dotted : Dotted → Dotted
  moved_dotted d = record { before_dot = moved_piece d.before_dot; after_dot = moved_piece d.after_dot; part = moved_piece d.part }

  abbrev pub moved_key : Key → Key
  moved_key k = record { first = moved_piece k.first; rest = map moved_dotted k.rest }

  abbrev pub moved_assign : Assign → Assign
  moved_assign a = record { key = moved_key a.key; before_equals = moved_piece a.before_equals; after_equals = moved_piece a.after_equals }

  abbrev pub moved_gap_line : GapLine → GapLine
  moved_gap_line l = record { blank = moved_blank l.blank; newline = moved_piece l.newline }

  abbrev pub moved_gap : Gap → Gap
  moved_gap g = record { lines = map moved_gap_line g.lines; ws = moved_piece g.ws }

  abbrev mutual
    pub moved : Value → Value
    moved (Scalar kind p) = Scalar kind (moved_piece p)
    moved (Array whole items) = Array (moved_piece whole) (moved_items items)
    moved (Inline whole pairs) = Inline (moved_piece whole) (moved_pairs pairs)

    pub moved_items : Items → Items
    moved_items (Close g) = Close (moved_gap g)
    moved_items (Last g v h) = Last (moved_gap g) (moved v) (moved_gap h)
    moved_items (More g v h is) = More (moved_gap g) (moved v) (moved_gap h) (moved_items is)

    pub moved_pairs : Pairs → Pairs
    moved_pairs (ClosePairs g) = ClosePairs (moved_gap g)
    moved_pairs (LastPair g a v h) = LastPair (moved_gap g) (moved_assign a) (moved v) (moved_gap h)
    moved_pairs (MorePairs g a v h ps) = MorePairs (moved_gap g) (moved_assign a) (moved v) (moved_gap h) (moved_pairs ps)

  abbrev pub moved_keyval : KeyVal → KeyVal
  moved_keyval k = record { assign = moved_assign k.assign; value = moved k.value }

  abbrev pub moved_header : Header → Header
  moved_header h = record { before = moved_piece h.before; key = moved_key h.key; after = moved_piece h.after }

  abbrev pub moved_expr : Expr → Expr
  moved_expr (BlankLine b) = BlankLine (moved_blank b)
  moved_expr (KeyValLine ws k b) = KeyValLine (moved_piece ws) (moved_keyval k) (moved_blank b)
  moved_expr (TableLine ws h b) = TableLine (moved_piece ws) (moved_header h) (moved_blank b)
  moved_expr (ArrayTableLine ws h b) = ArrayTableLine (moved_piece ws) (moved_header h) (moved_blank b)

-- what is moved has the same text
abbrev pub MovedValueText : Type 0
MovedValueText = (v : Value) (n : ℕ) → joined (value_parts (moved n v)) ≡ joined (value_parts v)

abbrev pub MovedKeyValText : Type 0
MovedKeyValText = (k : KeyVal) (n : ℕ) → joined (keyval_parts (moved_keyval n k)) ≡ joined (keyval_parts k)

abbrev pub MovedExprText : Type 0
MovedExprText = (e : Expr) (n : ℕ) → joined (expr_parts (moved_expr n e)) ≡ joined (expr_parts e)

-- a value spells a text exactly where it spells it, moved, further behind
abbrev pub MovedValueSpells : Type 0
MovedValueSpells = (v : Value) (n at : ℕ) (text : List ℕ) → SpellsValue v at text ↔ SpellsValue (moved n v) (at + n) text

-- the same of a pair, and of an expression
abbrev pub MovedKeyValSpells : Type 0
MovedKeyValSpells = (k : KeyVal) (n at : ℕ) (text : List ℕ) → SpellsKeyVal k at text ↔ SpellsKeyVal (moved_keyval n k) (at + n) text

abbrev pub MovedExprSpells : Type 0
MovedExprSpells = (e : Expr) (n at : ℕ) (text : List ℕ) → SpellsExpr e at text ↔ SpellsExpr (moved_expr n e) (at + n) text
