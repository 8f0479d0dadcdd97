-- A tree with each piece at its place, whatever places it had before, so that it spells its own text.
use Rattle.std.specs.Prelude.{◌≡◌, ◌↔◌, ◌≤◌, ℕ, ◌+◌, List, [], ◌∷◌, ◌++◌, length, Option, Some, None}
use Rattle.toml_tree.specs.Bare.{fresh, bare_value, bare_lines}
use Rattle.toml_tree.specs.Parts.{size}
use Rattle.toml_tree.specs.Profiles.{IsValueOfProfile, AreLinesOfProfile}
use Rattle.toml_tree.specs.Spells.{Part, joined, key_parts, dotted_parts, assign_parts, blank_parts, gap_parts, gap_line_parts, all_parts, value_parts, header_parts, array_header_parts, keyval_parts, expr_parts, line_parts, lines_parts, max_depth, depth, IsValue, AreLines, SpellsValue, SpellLines, Spells, mark_of}
use Rattle.toml_tree.specs.Tree.{Piece, Blank, Dotted, Key, Assign, GapLine, Gap, Value, Scalar, Array, Inline, Items, Close, Last, More, Pairs, ClosePairs, LastPair, MorePairs, KeyVal, Header, Expr, BlankLine, KeyValLine, TableLine, ArrayTableLine, Line, Doc}
use Rattle.toml_tree.specs.declared.profile.Profile.{Profile}

-- where the parts end that stand at the place
abbrev pub behind : ℕ → List Part → ℕ
behind at ps = at + size ps

-- a piece at the place
abbrev pub put : ℕ → Piece → Piece
put at p = record { start = at; text = p.text }

-- the same of what is made of pieces
abbrev pub put_comment : ℕ → Option Piece → Option Piece
put_comment at None = None
put_comment at (Some p) = Some (put at p)

abbrev pub put_blank : ℕ → Blank → Blank
put_blank at b = record { ws = put at b.ws; comment = put_comment (at + length b.ws.text) b.comment }

abbrev pub put_dotted : ℕ → Dotted → Dotted
put_dotted at d = record {
  before_dot = put at d.before_dot;
  after_dot = put (at + length d.before_dot.text + 1) d.after_dot;
  part = put (at + length d.before_dot.text + 1 + length d.after_dot.text) d.part;
}

-- one behind the other
abbrev pub put_each : {A : Type 0} → (ℕ → A → A) → (A → List Part) → ℕ → List A → List A
put_each f parts at [] = []
put_each f parts at (x ∷ xs) = f at x ∷ put_each f parts (behind at (parts x)) xs

abbrev pub put_key : ℕ → Key → Key
put_key at k = record { first = put at k.first; rest = put_each put_dotted dotted_parts (at + length k.first.text) k.rest }

abbrev pub put_assign : ℕ → Assign → Assign
put_assign at a = record {
  key = put_key at a.key;
  before_equals = put (behind at (key_parts a.key)) a.before_equals;
  after_equals = put (behind at (key_parts a.key) + length a.before_equals.text + 1) a.after_equals;
}

abbrev pub put_gap_line : ℕ → GapLine → GapLine
put_gap_line at l = record { blank = put_blank at l.blank; newline = put (behind at (blank_parts l.blank)) l.newline }

abbrev pub put_gap : ℕ → Gap → Gap
put_gap at g = record { lines = put_each put_gap_line gap_line_parts at g.lines; ws = put (behind at (all_parts gap_line_parts g.lines)) g.ws }

abbrev mutual
  pub put_value : ℕ → Value → Value
  put_value at (Scalar kind p) = Scalar kind (put at p)
  put_value at (Array whole items) = Array (put at whole) (put_items (at + 1) items)
  put_value at (Inline whole pairs) = Inline (put at whole) (put_pairs (at + 1) pairs)

  pub put_items : ℕ → Items → Items
  put_items at (Close g) = Close (put_gap at g)
  put_items at (Last g v h) = Last (put_gap at g) (put_value (behind at (gap_parts g)) v) (put_gap (behind (behind at (gap_parts g)) (value_parts v)) h)
  put_items at (More g v h is) =
      More (put_gap at g) (put_value (behind at (gap_parts g)) v) (put_gap (behind (behind at (gap_parts g)) (value_parts v)) h)
      (put_items (behind (behind (behind at (gap_parts g)) (value_parts v)) (gap_parts h) + 1) is)

  pub put_pairs : ℕ → Pairs → Pairs
  put_pairs at (ClosePairs g) = ClosePairs (put_gap at g)
  put_pairs at (LastPair g a v h) =
      LastPair (put_gap at g) (put_assign (behind at (gap_parts g)) a) (put_value (behind (behind at (gap_parts g)) (assign_parts a)) v)
      (put_gap (behind (behind (behind at (gap_parts g)) (assign_parts a)) (value_parts v)) h)
  put_pairs at (MorePairs g a v h ps) =
      MorePairs (put_gap at g) (put_assign (behind at (gap_parts g)) a) (put_value (behind (behind at (gap_parts g)) (assign_parts a)) v)
      (put_gap (behind (behind (behind at (gap_parts g)) (assign_parts a)) (value_parts v)) h)
      (put_pairs (behind (behind (behind (behind at (gap_parts g)) (assign_parts a)) (value_parts v)) (gap_parts h) + 1) ps)

abbrev pub put_keyval : ℕ → KeyVal → KeyVal
put_keyval at k = record { assign = put_assign at k.assign; value = put_value (behind at (assign_parts k.assign)) k.value }

-- from `[` on, in `[[..]]` from the second
abbrev pub put_header : ℕ → Header → Header
put_header at h = record {
  before = put (at + 1) h.before;
  key = put_key (at + 1 + length h.before.text) h.key;
  after = put (behind (at + 1 + length h.before.text) (key_parts h.key)) h.after;
}

abbrev pub put_expr : ℕ → Expr → Expr
put_expr at (BlankLine b) = BlankLine (put_blank at b)
put_expr at (KeyValLine ws k b) =
    KeyValLine (put at ws) (put_keyval (at + length ws.text) k) (put_blank (behind (at + length ws.text) (keyval_parts k)) b)
put_expr at (TableLine ws h b) = TableLine (put at ws) (put_header (at + length ws.text) h) (put_blank (behind (at + length ws.text) (header_parts h)) b)
put_expr at (ArrayTableLine ws h b) = ArrayTableLine (put at ws) (put_header (at + length ws.text + 1) h) (put_blank (behind (at + length ws.text) (array_header_parts h)) b)

abbrev pub put_line : ℕ → Line → Line
put_line at l = record { expr = put_expr at l.expr; newline = put (behind at (expr_parts l.expr)) l.newline }

abbrev pub put_lines : ℕ → List Line → List Line
put_lines = put_each put_line line_parts

-- but for places, nothing has changed
abbrev pub PutValueIsSame : Type 0
PutValueIsSame = (v : Value) (at : ℕ) → bare_value (put_value at v) ≡ bare_value v

abbrev pub PutLinesAreSame : Type 0
PutLinesAreSame = (lines : List Line) (at : ℕ) → bare_lines (put_lines at lines) ≡ bare_lines lines

-- and it is of the profiles that it was of
abbrev pub PutValueOfProfile : Type 0
PutValueOfProfile = (profile : Profile) (v : Value) (at : ℕ) → IsValueOfProfile profile v ↔ IsValueOfProfile profile (put_value at v)

abbrev pub PutLinesOfProfile : Type 0
PutLinesOfProfile = (profile : Profile) (lines : List Line) (at : ℕ) → AreLinesOfProfile profile lines ↔ AreLinesOfProfile profile (put_lines at lines)

-- a value in its form, put at a place, spells its text there
abbrev pub PutValueSpells : Type 0
PutValueSpells = (v : Value) (at : ℕ) → IsValue v → depth v ≤ max_depth → SpellsValue (put_value at v) at (joined (value_parts v))

-- lines in the forms, put at a place, spell their text there
abbrev pub PutLinesSpell : Type 0
PutLinesSpell = (lines : List Line) (at : ℕ) → AreLines lines → SpellLines (put_lines at lines) at (joined (lines_parts lines))

-- lines in the forms do not begin with the mark
abbrev pub LinesHaveNoMark : Type 0
LinesHaveNoMark = (lines : List Line) → AreLines lines → mark_of (joined (lines_parts lines)) ≡ []

-- a mark, or nothing, and lines behind it
abbrev pub put_doc : List ℕ → List Line → Doc
put_doc mark lines = record { mark = fresh mark; lines = put_lines (length mark) lines }

-- lines in the forms and the mark of a text, where it has one, are the tree of the text that they make
abbrev pub PutDocSpells : Type 0
PutDocSpells = (text : List ℕ) (lines : List Line) → AreLines lines → Spells (put_doc (mark_of text) lines) (mark_of text ++ joined (lines_parts lines))
