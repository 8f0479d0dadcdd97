-- Which text a tree spells: its parts, joined in order, are the text; each piece is in its form and has its place. The
-- forms are those of profile 2, the wider one; what profile 1 asks beyond them `Profiles` has.
use Rattle.std.specs.Prelude.{◌≡◌, ◌≤◌, ℕ, ◌+◌, max, List, [], ◌∷◌, ◌++◌, length, drop, ◌&&◌, ◌==◌, if◌then◌else◌, Option, Some, None}
use Rattle.toml_text.specs.Forms.{IsWs, IsNewline, IsComment}
use Rattle.toml_scalar.specs.Names.{IsKeyPart}
use Rattle.toml_scalar.specs.Tokens.{IsToken}
use Rattle.toml_tree.specs.Tree.{Piece, Blank, Dotted, Key, Assign, GapLine, Gap, Value, Scalar, Array, Inline, Items, Close, Last, More, Pairs, ClosePairs, LastPair, MorePairs, KeyVal, Header, Expr, BlankLine, KeyValLine, TableLine, ArrayTableLine, Line, Doc}

-- A tree is read off as its parts in text order: pieces, and the symbols between them. Where a value has parts of its
-- own, its piece begins with the first of them.
pub data Part : Type 0 where
  piece : Piece → Part
  symbol : List ℕ → Part
  begin : Piece → Part

abbrev pub part_text : Part → List ℕ
part_text (piece p) = p.text
part_text (symbol bs) = bs
part_text (begin p) = []

-- the parts, joined in order
abbrev pub joined : List Part → List ℕ
joined [] = []
joined (p ∷ ps) = part_text p ++ joined ps

abbrev pub StartsAt : Part → ℕ → Type 0
StartsAt (piece p) at = p.start ≡ at
StartsAt (symbol bs) at = Unit {0}
StartsAt (begin p) at = p.start ≡ at

-- each piece has the place at which it stands
abbrev pub Placed : ℕ → List Part → Type 0
Placed at [] = Unit {0}
Placed at (p ∷ ps) = StartsAt p at × Placed (at + length (part_text p)) ps

-- the parts of each, in order
abbrev pub all_parts : {A : Type 0} → (A → List Part) → List A → List Part
all_parts f [] = []
all_parts f (x ∷ xs) = f x ++ all_parts f xs

abbrev pub EachIs : {A : Type 0} → (A → Type 0) → List A → Type 0
EachIs P [] = Unit {0}
EachIs P (x ∷ xs) = P x × EachIs P xs

abbrev pub comment_parts : Option Piece → List Part
comment_parts None = []
comment_parts (Some p) = piece p ∷ []

abbrev pub blank_parts : Blank → List Part
blank_parts b = piece b.ws ∷ comment_parts b.comment

-- the symbol is `.`
abbrev pub dotted_parts : Dotted → List Part
dotted_parts d = piece d.before_dot ∷ symbol (0x2E ∷ []) ∷ piece d.after_dot ∷ piece d.part ∷ []

abbrev pub key_parts : Key → List Part
key_parts k = piece k.first ∷ all_parts dotted_parts k.rest

-- `=` between whitespace
abbrev pub equals_parts : Piece → Piece → List Part
equals_parts before after = piece before ∷ symbol (0x3D ∷ []) ∷ piece after ∷ []

abbrev pub assign_parts : Assign → List Part
assign_parts a = key_parts a.key ++ equals_parts a.before_equals a.after_equals

abbrev pub gap_line_parts : GapLine → List Part
gap_line_parts l = blank_parts l.blank ++ piece l.newline ∷ []

abbrev pub gap_parts : Gap → List Part
gap_parts g = all_parts gap_line_parts g.lines ++ piece g.ws ∷ []

-- The symbols are `[`, `,` and `]`, or `{`, `,` and `}`.
abbrev mutual
  pub value_parts : Value → List Part
  value_parts (Scalar kind p) = piece p ∷ []
  value_parts (Array whole items) = begin whole ∷ symbol (0x5B ∷ []) ∷ items_parts items
  value_parts (Inline whole pairs) = begin whole ∷ symbol (0x7B ∷ []) ∷ pairs_parts pairs

  pub items_parts : Items → List Part
  items_parts (Close g) = gap_parts g ++ symbol (0x5D ∷ []) ∷ []
  items_parts (Last g v h) = gap_parts g ++ (value_parts v ++ (gap_parts h ++ symbol (0x5D ∷ []) ∷ []))
  items_parts (More g v h is) = gap_parts g ++ (value_parts v ++ (gap_parts h ++ symbol (0x2C ∷ []) ∷ items_parts is))

  pub pairs_parts : Pairs → List Part
  pairs_parts (ClosePairs g) = gap_parts g ++ symbol (0x7D ∷ []) ∷ []
  pairs_parts (LastPair g a v h) = gap_parts g ++ (assign_parts a ++ (value_parts v ++ (gap_parts h ++ symbol (0x7D ∷ []) ∷ [])))
  pairs_parts (MorePairs g a v h ps) = gap_parts g ++ (assign_parts a ++ (value_parts v ++ (gap_parts h ++ symbol (0x2C ∷ []) ∷ pairs_parts ps)))

abbrev pub keyval_parts : KeyVal → List Part
keyval_parts k = assign_parts k.assign ++ value_parts k.value

-- `[`, a key between whitespace, and `]`
abbrev pub header_parts : Header → List Part
header_parts h = symbol (0x5B ∷ []) ∷ piece h.before ∷ (key_parts h.key ++ (piece h.after ∷ symbol (0x5D ∷ []) ∷ []))

-- the same between one more pair of brackets
abbrev pub array_header_parts : Header → List Part
array_header_parts h = symbol (0x5B ∷ []) ∷ (header_parts h ++ symbol (0x5D ∷ []) ∷ [])

abbrev pub expr_parts : Expr → List Part
expr_parts (BlankLine b) = blank_parts b
expr_parts (KeyValLine ws k b) = piece ws ∷ (keyval_parts k ++ blank_parts b)
expr_parts (TableLine ws h b) = piece ws ∷ (header_parts h ++ blank_parts b)
expr_parts (ArrayTableLine ws h b) = piece ws ∷ (array_header_parts h ++ blank_parts b)

abbrev pub line_parts : Line → List Part
line_parts l = expr_parts l.expr ++ piece l.newline ∷ []

abbrev pub lines_parts : List Line → List Part
lines_parts = all_parts line_parts

abbrev pub doc_parts : Doc → List Part
doc_parts d = piece d.mark ∷ lines_parts d.lines

abbrev pub IsCommentOrNone : Option Piece → Type 0
IsCommentOrNone None = Unit {0}
IsCommentOrNone (Some p) = IsComment p.text

-- `ws [ comment ]`
abbrev pub IsBlank : Blank → Type 0
IsBlank b = IsWs b.ws.text × IsCommentOrNone b.comment

-- `dot-sep` and a `simple-key`
abbrev pub IsDotted : Dotted → Type 0
IsDotted d = IsWs d.before_dot.text × IsWs d.after_dot.text × IsKeyPart d.part.text

-- TOML v1.0.0, Keys; `key`: parts joined by dots
abbrev pub IsKey : Key → Type 0
IsKey k = IsKeyPart k.first.text × EachIs IsDotted k.rest

-- TOML v1.0.0, Key/Value Pair; `key keyval-sep`
abbrev pub IsAssign : Assign → Type 0
IsAssign a = IsKey a.key × IsWs a.before_equals.text × IsWs a.after_equals.text

-- `[ comment ] newline` in an array or an inline table
abbrev pub IsGapLine : GapLine → Type 0
IsGapLine l = IsBlank l.blank × IsNewline l.newline.text

-- TOML v1.0.0, Array; `ws-comment-newline`: whitespace, newlines, and comments that a newline follows
abbrev pub IsGap : Gap → Type 0
IsGap g = EachIs IsGapLine g.lines × IsWs g.ws.text

-- TOML v1.0.0, String to Inline Table; `val`. The piece of an array or an inline table is the text of its parts.
abbrev mutual
  pub IsValue : Value → Type 0
  IsValue (Scalar kind p) = IsToken kind p.text
  IsValue (Array whole items) = (whole.text ≡ joined (symbol (0x5B ∷ []) ∷ items_parts items)) × AreItems items
  IsValue (Inline whole pairs) = (whole.text ≡ joined (symbol (0x7B ∷ []) ∷ pairs_parts pairs)) × ArePairs pairs

  -- `array-values`: a comma may follow the last value
  pub AreItems : Items → Type 0
  AreItems (Close g) = IsGap g
  AreItems (Last g v h) = IsGap g × IsValue v × IsGap h
  AreItems (More g v h is) = IsGap g × IsValue v × IsGap h × AreItems is

  -- `inline-table-keyvals` with gaps and a last comma as in an array, which profile 2 has
  pub ArePairs : Pairs → Type 0
  ArePairs (ClosePairs g) = IsGap g
  ArePairs (LastPair g a v h) = IsGap g × IsAssign a × IsValue v × IsGap h
  ArePairs (MorePairs g a v h ps) = IsGap g × IsAssign a × IsValue v × IsGap h × ArePairs ps

-- How deep values nest: a scalar has depth 1, and what stands in an array or an inline table is one deeper than it.
abbrev mutual
  pub depth : Value → ℕ
  depth (Scalar kind p) = 1
  depth (Array whole items) = items_depth items + 1
  depth (Inline whole pairs) = pairs_depth pairs + 1

  pub items_depth : Items → ℕ
  items_depth (Close g) = 0
  items_depth (Last g v h) = depth v
  items_depth (More g v h is) = max (depth v) (items_depth is)

  pub pairs_depth : Pairs → ℕ
  pairs_depth (ClosePairs g) = 0
  pairs_depth (LastPair g a v h) = depth v
  pairs_depth (MorePairs g a v h ps) = max (depth v) (pairs_depth ps)

-- the greatest depth of a value, in either profile
abbrev pub max_depth : ℕ
max_depth = 100

-- TOML v1.0.0, Key/Value Pair; `keyval`
abbrev pub IsKeyVal : KeyVal → Type 0
IsKeyVal k = IsAssign k.assign × IsValue k.value × (depth k.value ≤ max_depth)

-- TOML v1.0.0, Table and Array of Tables; `std-table` and `array-table` between their brackets
abbrev pub IsHeader : Header → Type 0
IsHeader h = IsWs h.before.text × IsKey h.key × IsWs h.after.text

-- `expression`: `ws [ comment ]`, `ws keyval ws [ comment ]`, or `ws table ws [ comment ]`
abbrev pub IsExpr : Expr → Type 0
IsExpr (BlankLine b) = IsBlank b
IsExpr (KeyValLine ws k b) = IsWs ws.text × IsKeyVal k × IsBlank b
IsExpr (TableLine ws h b) = IsWs ws.text × IsHeader h × IsBlank b
IsExpr (ArrayTableLine ws h b) = IsWs ws.text × IsHeader h × IsBlank b

-- `toml`: expressions joined by newlines, so each line but the last ends in one
abbrev pub AreLines : List Line → Type 0
AreLines [] = ⊥
AreLines (l ∷ []) = IsExpr l.expr × (l.newline.text ≡ [])
AreLines (l ∷ m ∷ ls) = IsExpr l.expr × IsNewline l.newline.text × AreLines (m ∷ ls)

-- the lines are in the forms, joined they are the text, and each piece has its place, the text's first byte being at `at`
pub record SpellLines (ls : List Line) (at : ℕ) (text : List ℕ) : Type 0 where
  pub forms : AreLines ls
  pub text_is : joined (lines_parts ls) ≡ text
  pub placed : Placed at (lines_parts ls)

-- the mark U+FEFF at the front of a text, or nothing: both profiles let it stand once
abbrev pub mark_of : List ℕ → List ℕ
mark_of (a ∷ b ∷ c ∷ bs) = if a == 0xEF && b == 0xBB && c == 0xBF then a ∷ b ∷ c ∷ [] else []
mark_of _ = []

-- `toml`: the tree spells the text, the mark where there is one, and the lines
pub record Spells (d : Doc) (text : List ℕ) : Type 0 where
  pub mark : d.mark ≡ record { start = 0; text = mark_of text }
  pub lines : SpellLines d.lines (length (mark_of text)) (drop (length (mark_of text)) text)

-- The same of one value, one pair and one expression, the text's first byte being at `at`: nothing stands before it or
-- behind it.
pub record SpellsValue (v : Value) (at : ℕ) (text : List ℕ) : Type 0 where
  pub form : IsValue v
  pub shallow : depth v ≤ max_depth
  pub text_is : joined (value_parts v) ≡ text
  pub placed : Placed at (value_parts v)

pub record SpellsKeyVal (k : KeyVal) (at : ℕ) (text : List ℕ) : Type 0 where
  pub form : IsKeyVal k
  pub text_is : joined (keyval_parts k) ≡ text
  pub placed : Placed at (keyval_parts k)

pub record SpellsExpr (e : Expr) (at : ℕ) (text : List ℕ) : Type 0 where
  pub form : IsExpr e
  pub text_is : joined (expr_parts e) ≡ text
  pub placed : Placed at (expr_parts e)
