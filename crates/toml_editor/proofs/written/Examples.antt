-- Examples, computed: each text was written by hand. The edited document is
--
--     a.b = [1, {c = 2}] # x
--     [t]
--     c = 3
--     [[u]]
--     c = 4
--     [u.v]
--
-- whose last line has no newline. Others are `d = 1`, `e = 2`, an inline table over several lines, and one with CR LF and whitespace.
use Rattle.std.proofs.Common.{◌≡◌, ℕ, Some, None, List, [], ◌∷◌, ◌++◌, refl, true}
use Rattle.toml_scalar.specs.Values.{name_of}
use Rattle.toml_scalar.specs.declared.kind.ScalarKind.TheVariants as kinds
use Rattle.toml_tree.specs.Bare.{fresh}
use Rattle.toml_tree.specs.Spells.{joined, lines_parts}
use Rattle.toml_tree.specs.Tree.{Piece, Blank, Key, Assign, Gap, Value, Scalar, Last, More, MorePairs, ClosePairs, LastPair, Header, Expr, BlankLine, KeyValLine, TableLine, ArrayTableLine, Line}
use Rattle.toml_names.specs.declared.model.address.Step.TheVariants.{Name, Index}
use Rattle.toml_working.specs.Inserting.{insert_lines}
use Rattle.toml_working.specs.Lines.{array_of, inline_of}
use Rattle.toml_working.specs.Removing.{remove_lines}
use Rattle.toml_working.specs.Renaming.{rename_lines}
use Rattle.toml_working.specs.Setting.{set_lines}
use Rattle.toml_layout.specs.declared.layout.Layout.TheVariants as layouts
use Rattle.toml_working.specs.Manners.{Manner, manner_of, style_of}

-- ---- trees

abbrev pub empty : Piece
empty = fresh []

abbrev space : Piece
space = fresh (0x20 ∷ [])

abbrev no_gap : Gap
no_gap = record { lines = []; ws = empty }

abbrev pub key : ℕ → Key
key letter = record { first = fresh (letter ∷ []); rest = [] }

abbrev pub dotted : ℕ → ℕ → Key
dotted one two = record { first = fresh (one ∷ []); rest = record { before_dot = empty; after_dot = empty; part = fresh (two ∷ []) } ∷ [] }

abbrev assign : Key → Assign
assign k = record { key = k; before_equals = space; after_equals = space }

abbrev pub digit : ℕ → Value
digit d = Scalar kinds.Integer (fresh (d ∷ []))

abbrev pub no_tail : Blank
no_tail = record { ws = empty; comment = None }

abbrev pub header : Key → Header
header k = record { before = empty; key = k; after = empty }

abbrev pub ended : Expr → Line
ended e = record { expr = e; newline = fresh (0x0A ∷ []) }

abbrev pub keyval : Key → Value → Expr
keyval k v = KeyValLine empty (record { assign = assign k; value = v }) no_tail

abbrev nested : Value
nested = array_of (More no_gap (digit 0x31) no_gap (Last (record { lines = []; ws = space }) (inline_of (LastPair no_gap (assign (key 0x63)) (digit 0x32) no_gap)) no_gap))

abbrev pub document : List Line
document =
    ended (KeyValLine empty (record { assign = assign (dotted 0x61 0x62); value = nested }) (record { ws = space; comment = Some (fresh (0x23 ∷ 0x20 ∷ 0x78 ∷ [])) }))
    ∷ ended (TableLine empty (header (key 0x74)) no_tail)
    ∷ ended (keyval (key 0x63) (digit 0x33))
    ∷ ended (ArrayTableLine empty (header (key 0x75)) no_tail)
    ∷ ended (keyval (key 0x63) (digit 0x34))
    ∷ record { expr = TableLine empty (header (dotted 0x75 0x76)) no_tail; newline = empty } ∷ []

abbrev pub pairs : List Line
pairs = ended (keyval (key 0x64) (digit 0x31)) ∷ record { expr = keyval (key 0x65) (digit 0x32); newline = empty } ∷ []

-- a table over three lines, with a comment and a last comma
abbrev over_lines : List Line
over_lines =
    let comment : Gap = record { lines = record { blank = record { ws = space; comment = Some (fresh (0x23 ∷ 0x79 ∷ [])) }; newline = fresh (0x0A ∷ []) } ∷ []; ws = empty } in
    let opened : Gap = record { lines = record { blank = no_tail; newline = fresh (0x0A ∷ []) } ∷ []; ws = space } in
    record { expr = keyval (key 0x70) (inline_of (MorePairs opened (assign (key 0x63)) (digit 0x31) no_gap (ClosePairs comment))); newline = empty } ∷ []

-- ---- the lines of the texts

-- `a.b = [1, {c = 2}] # x`
abbrev pub first : List ℕ
first = 0x61 ∷ 0x2E ∷ 0x62 ∷ 0x20 ∷ 0x3D ∷ 0x20 ∷ 0x5B ∷ 0x31 ∷ 0x2C ∷ 0x20 ∷ 0x7B ∷ 0x63 ∷ 0x20 ∷ 0x3D ∷ 0x20 ∷ 0x32 ∷ 0x7D ∷ 0x5D ∷ 0x20 ∷ 0x23 ∷ 0x20 ∷ 0x78 ∷ 0x0A ∷ []

-- `[t]`
abbrev pub table : List ℕ
table = 0x5B ∷ 0x74 ∷ 0x5D ∷ 0x0A ∷ []

-- `c = 3`
abbrev pub third : List ℕ
third = 0x63 ∷ 0x20 ∷ 0x3D ∷ 0x20 ∷ 0x33 ∷ 0x0A ∷ []

-- `[[u]]`
abbrev pub array : List ℕ
array = 0x5B ∷ 0x5B ∷ 0x75 ∷ 0x5D ∷ 0x5D ∷ 0x0A ∷ []

-- `c = 4`
abbrev pub fourth : List ℕ
fourth = 0x63 ∷ 0x20 ∷ 0x3D ∷ 0x20 ∷ 0x34 ∷ 0x0A ∷ []

-- `[u.v]`
abbrev pub last : List ℕ
last = 0x5B ∷ 0x75 ∷ 0x2E ∷ 0x76 ∷ 0x5D ∷ []

abbrev pub nine : Value
nine = digit 0x39

-- the texts that trees spell
abbrev pub text : List Line → List ℕ
text lines = joined (lines_parts lines)

same : text document ≡ first ++ table ++ third ++ array ++ fourth ++ last
unfolding name_of
same = refl

-- ---- rename

-- a name in an inline table in an array, to one that is no bare key: `a.b = [1, {"x y" = 2}] # x`
renamed_inside : text (rename_lines (Name (0x61 ∷ []) ∷ Name (0x62 ∷ []) ∷ Index 1 ∷ Name (0x63 ∷ []) ∷ []) (0x78 ∷ 0x20 ∷ 0x79 ∷ []) document) ≡ (0x61 ∷ 0x2E ∷ 0x62 ∷ 0x20 ∷ 0x3D ∷ 0x20 ∷ 0x5B ∷ 0x31 ∷ 0x2C ∷ 0x20 ∷ 0x7B ∷ 0x22 ∷ 0x78 ∷ 0x20 ∷ 0x79 ∷ 0x22 ∷ 0x20 ∷ 0x3D ∷ 0x20 ∷ 0x32 ∷ 0x7D ∷ 0x5D ∷ 0x20 ∷ 0x23 ∷ 0x20 ∷ 0x78 ∷ 0x0A ∷ []) ++ table ++ third ++ array ++ fourth ++ last
unfolding name_of
renamed_inside = refl

-- the first part of a dotted key: `z.b = [1, {c = 2}] # x`
renamed_dotted : text (rename_lines (Name (0x61 ∷ []) ∷ []) (0x7A ∷ []) document) ≡ (0x7A ∷ 0x2E ∷ 0x62 ∷ 0x20 ∷ 0x3D ∷ 0x20 ∷ 0x5B ∷ 0x31 ∷ 0x2C ∷ 0x20 ∷ 0x7B ∷ 0x63 ∷ 0x20 ∷ 0x3D ∷ 0x20 ∷ 0x32 ∷ 0x7D ∷ 0x5D ∷ 0x20 ∷ 0x23 ∷ 0x20 ∷ 0x78 ∷ 0x0A ∷ []) ++ table ++ third ++ array ++ fourth ++ last
unfolding name_of
renamed_dotted = refl

-- an array of tables, in each header that passes it: `[[w]]` and `[w.v]`
renamed_array : text (rename_lines (Name (0x75 ∷ []) ∷ []) (0x77 ∷ []) document) ≡ first ++ table ++ third ++ (0x5B ∷ 0x5B ∷ 0x77 ∷ 0x5D ∷ 0x5D ∷ 0x0A ∷ []) ++ fourth ++ (0x5B ∷ 0x77 ∷ 0x2E ∷ 0x76 ∷ 0x5D ∷ [])
unfolding name_of
renamed_array = refl

-- a name in an element of it: `w = 4`
renamed_in_element : text (rename_lines (Name (0x75 ∷ []) ∷ Index 0 ∷ Name (0x63 ∷ []) ∷ []) (0x77 ∷ []) document) ≡ first ++ table ++ third ++ array ++ (0x77 ∷ 0x20 ∷ 0x3D ∷ 0x20 ∷ 0x34 ∷ 0x0A ∷ []) ++ last
unfolding name_of
renamed_in_element = refl

-- in a table over several lines
renamed_over_lines : text (rename_lines (Name (0x70 ∷ []) ∷ Name (0x63 ∷ []) ∷ []) (0x7A ∷ []) over_lines) ≡ 0x70 ∷ 0x20 ∷ 0x3D ∷ 0x20 ∷ 0x7B ∷ 0x0A ∷ 0x20 ∷ 0x7A ∷ 0x20 ∷ 0x3D ∷ 0x20 ∷ 0x31 ∷ 0x2C ∷ 0x20 ∷ 0x23 ∷ 0x79 ∷ 0x0A ∷ 0x7D ∷ []
unfolding name_of
renamed_over_lines = refl

-- ---- set

-- `a.b = [1, {c = 9}] # x`
pub set_inside : text (set_lines (Name (0x61 ∷ []) ∷ Name (0x62 ∷ []) ∷ Index 1 ∷ Name (0x63 ∷ []) ∷ []) nine document) ≡ (0x61 ∷ 0x2E ∷ 0x62 ∷ 0x20 ∷ 0x3D ∷ 0x20 ∷ 0x5B ∷ 0x31 ∷ 0x2C ∷ 0x20 ∷ 0x7B ∷ 0x63 ∷ 0x20 ∷ 0x3D ∷ 0x20 ∷ 0x39 ∷ 0x7D ∷ 0x5D ∷ 0x20 ∷ 0x23 ∷ 0x20 ∷ 0x78 ∷ 0x0A ∷ []) ++ table ++ third ++ array ++ fourth ++ last
unfolding name_of
set_inside = refl

-- `a.b = [9, {c = 2}] # x`
set_element : text (set_lines (Name (0x61 ∷ []) ∷ Name (0x62 ∷ []) ∷ Index 0 ∷ []) nine document) ≡ (0x61 ∷ 0x2E ∷ 0x62 ∷ 0x20 ∷ 0x3D ∷ 0x20 ∷ 0x5B ∷ 0x39 ∷ 0x2C ∷ 0x20 ∷ 0x7B ∷ 0x63 ∷ 0x20 ∷ 0x3D ∷ 0x20 ∷ 0x32 ∷ 0x7D ∷ 0x5D ∷ 0x20 ∷ 0x23 ∷ 0x20 ∷ 0x78 ∷ 0x0A ∷ []) ++ table ++ third ++ array ++ fourth ++ last
unfolding name_of
set_element = refl

-- the value of a line below a header: `c = 9`
set_line : text (set_lines (Name (0x74 ∷ []) ∷ Name (0x63 ∷ []) ∷ []) nine document) ≡ first ++ table ++ (0x63 ∷ 0x20 ∷ 0x3D ∷ 0x20 ∷ 0x39 ∷ 0x0A ∷ []) ++ array ++ fourth ++ last
unfolding name_of
set_line = refl

-- in a table over several lines
set_over_lines : text (set_lines (Name (0x70 ∷ []) ∷ Name (0x63 ∷ []) ∷ []) nine over_lines) ≡ 0x70 ∷ 0x20 ∷ 0x3D ∷ 0x20 ∷ 0x7B ∷ 0x0A ∷ 0x20 ∷ 0x63 ∷ 0x20 ∷ 0x3D ∷ 0x20 ∷ 0x39 ∷ 0x2C ∷ 0x20 ∷ 0x23 ∷ 0x79 ∷ 0x0A ∷ 0x7D ∷ []
unfolding name_of
set_over_lines = refl

-- ---- insert

abbrev pub plain : List ℕ → Manner
plain newline = record { newline = newline; layout = layouts.Plain; may_blank = true }

-- behind the last keyval line before the first header, with the newline of the style: `"z z" = 9`, CR, LF
inserted : text (insert_lines (0x7A ∷ 0x20 ∷ 0x7A ∷ []) nine (plain (0x0D ∷ 0x0A ∷ [])) document) ≡ first ++ (0x22 ∷ 0x7A ∷ 0x20 ∷ 0x7A ∷ 0x22 ∷ 0x20 ∷ 0x3D ∷ 0x20 ∷ 0x39 ∷ 0x0D ∷ 0x0A ∷ []) ++ table ++ third ++ array ++ fourth ++ last
unfolding name_of
inserted = refl

-- behind the last line, which gets the newline
inserted_last : text (insert_lines (0x66 ∷ []) nine (plain (0x0D ∷ 0x0A ∷ [])) pairs) ≡ 0x64 ∷ 0x20 ∷ 0x3D ∷ 0x20 ∷ 0x31 ∷ 0x0A ∷ 0x65 ∷ 0x20 ∷ 0x3D ∷ 0x20 ∷ 0x32 ∷ 0x0D ∷ 0x0A ∷ 0x66 ∷ 0x20 ∷ 0x3D ∷ 0x20 ∷ 0x39 ∷ []
unfolding name_of
inserted_last = refl

-- before the first line, where no keyval line stands before a header
inserted_first : text (insert_lines (0x66 ∷ []) nine (plain (0x0A ∷ [])) (record { expr = TableLine empty (header (key 0x74)) no_tail; newline = empty } ∷ [])) ≡ 0x66 ∷ 0x20 ∷ 0x3D ∷ 0x20 ∷ 0x39 ∷ 0x0A ∷ 0x5B ∷ 0x74 ∷ 0x5D ∷ []
unfolding name_of
inserted_first = refl

-- ---- insert as the neighbours are written

abbrev pub follow : Manner
follow = record { newline = 0x0A ∷ []; layout = layouts.Follow; may_blank = true }

-- a key line with this whitespace before it and before its `=`, and behind that: `d`, `=`, `1`
abbrev pub spaced_pair : List ℕ → List ℕ → List ℕ → Line
spaced_pair ws before after =
    ended (KeyValLine (fresh ws) (record { assign = record { key = key 0x64; before_equals = fresh before; after_equals = fresh after }; value = digit 0x31 }) no_tail)

abbrev remark_line : List ℕ → Line
remark_line newline = record { expr = BlankLine (record { ws = empty; comment = Some (fresh (0x23 ∷ 0x63 ∷ [])) }); newline = fresh newline }

abbrev blank_line : Line
blank_line = ended (BlankLine no_tail)

abbrev pub last_header : Line
last_header = record { expr = TableLine empty (header (key 0x74)) no_tail; newline = empty }

-- as far in as the last keyval line, and nothing around `=` as there: `  d=1`, `  f=9`
followed_narrow : text (insert_lines (0x66 ∷ []) nine follow (spaced_pair (0x20 ∷ 0x20 ∷ []) [] [] ∷ last_header ∷ [])) ≡ 0x20 ∷ 0x20 ∷ 0x64 ∷ 0x3D ∷ 0x31 ∷ 0x0A ∷ 0x20 ∷ 0x20 ∷ 0x66 ∷ 0x3D ∷ 0x39 ∷ 0x0A ∷ 0x5B ∷ 0x74 ∷ 0x5D ∷ []
unfolding name_of
followed_narrow = refl

-- more than one space on one side: one space on each: `d  =1`, `f = 9`
followed_wide : text (insert_lines (0x66 ∷ []) nine follow (spaced_pair [] (0x20 ∷ 0x20 ∷ []) [] ∷ last_header ∷ [])) ≡ 0x64 ∷ 0x20 ∷ 0x20 ∷ 0x3D ∷ 0x31 ∷ 0x0A ∷ 0x66 ∷ 0x20 ∷ 0x3D ∷ 0x20 ∷ 0x39 ∷ 0x0A ∷ 0x5B ∷ 0x74 ∷ 0x5D ∷ []
unfolding name_of
followed_wide = refl

-- no keyval line: below the comment line that a blank line follows: `#c`, `f = 9`
followed_comment : text (insert_lines (0x66 ∷ []) nine follow (remark_line (0x0A ∷ []) ∷ blank_line ∷ last_header ∷ [])) ≡ 0x23 ∷ 0x63 ∷ 0x0A ∷ 0x66 ∷ 0x20 ∷ 0x3D ∷ 0x20 ∷ 0x39 ∷ 0x0A ∷ 0x0A ∷ 0x5B ∷ 0x74 ∷ 0x5D ∷ []
unfolding name_of
followed_comment = refl

-- or that is the last line
followed_last : text (insert_lines (0x66 ∷ []) nine follow (remark_line [] ∷ [])) ≡ 0x23 ∷ 0x63 ∷ 0x0A ∷ 0x66 ∷ 0x20 ∷ 0x3D ∷ 0x20 ∷ 0x39 ∷ []
unfolding name_of
followed_last = refl

-- above one that a header follows
followed_above : text (insert_lines (0x66 ∷ []) nine follow (remark_line (0x0A ∷ []) ∷ last_header ∷ [])) ≡ 0x66 ∷ 0x20 ∷ 0x3D ∷ 0x20 ∷ 0x39 ∷ 0x0A ∷ 0x23 ∷ 0x63 ∷ 0x0A ∷ 0x5B ∷ 0x74 ∷ 0x5D ∷ []
unfolding name_of
followed_above = refl

-- ---- remove

-- the last line, which leaves one of no bytes
removed_last : text (remove_lines (Name (0x65 ∷ []) ∷ []) pairs) ≡ 0x64 ∷ 0x20 ∷ 0x3D ∷ 0x20 ∷ 0x31 ∷ 0x0A ∷ []
unfolding name_of
removed_last = refl

-- another one
removed_first : text (remove_lines (Name (0x64 ∷ []) ∷ []) pairs) ≡ 0x65 ∷ 0x20 ∷ 0x3D ∷ 0x20 ∷ 0x32 ∷ []
unfolding name_of
removed_first = refl

-- ---- the newline of new lines

-- a line that ends in these bytes
abbrev ending : List ℕ → Line
ending newline = record { expr = keyval (key 0x64) (digit 0x31); newline = fresh newline }

-- that of the first line, whatever those behind it have
style_cr_lf : style_of (ending (0x0D ∷ 0x0A ∷ []) ∷ ending (0x0A ∷ []) ∷ ending [] ∷ []) ≡ 0x0D ∷ 0x0A ∷ []
style_cr_lf = refl

style_lf : style_of (ending (0x0A ∷ []) ∷ ending (0x0D ∷ 0x0A ∷ []) ∷ ending [] ∷ []) ≡ 0x0A ∷ []
style_lf = refl

-- LF, where the first line has none, and where there is no line
style_unended : style_of (ending [] ∷ []) ≡ 0x0A ∷ []
style_unended = refl

style_of_none : style_of [] ≡ 0x0A ∷ []
style_of_none = refl

-- ---- what is kept: each line ends in CR LF, and all whitespace stands somewhere (here a tab is written \t)
--
--     # one
--       x = 1 # two
--     # three
--     \ty . z  =\t2\t# four
--      [ a\t.  b ] # five
--     \t[[  v . w\t]]
--     \tc = 3 # six
--
-- whose last line is of no bytes

abbrev tab : Piece
tab = fresh (0x09 ∷ [])

abbrev spaces : Piece
spaces = fresh (0x20 ∷ 0x20 ∷ [])

abbrev remark : Piece → List ℕ → Blank
remark ws word = record { ws = ws; comment = Some (fresh (0x23 ∷ 0x20 ∷ word)) }

-- the words of the comments
abbrev one : List ℕ
one = 0x6F ∷ 0x6E ∷ 0x65 ∷ []

abbrev two : List ℕ
two = 0x74 ∷ 0x77 ∷ 0x6F ∷ []

abbrev three : List ℕ
three = 0x74 ∷ 0x68 ∷ 0x72 ∷ 0x65 ∷ 0x65 ∷ []

abbrev four : List ℕ
four = 0x66 ∷ 0x6F ∷ 0x75 ∷ 0x72 ∷ []

abbrev five : List ℕ
five = 0x66 ∷ 0x69 ∷ 0x76 ∷ 0x65 ∷ []

abbrev six : List ℕ
six = 0x73 ∷ 0x69 ∷ 0x78 ∷ []

abbrev spaced : ℕ → Piece → Piece → ℕ → Key
spaced letter before after other = record { first = fresh (letter ∷ []); rest = record { before_dot = before; after_dot = after; part = fresh (other ∷ []) } ∷ [] }

abbrev crlf : Expr → Line
crlf e = record { expr = e; newline = fresh (0x0D ∷ 0x0A ∷ []) }

abbrev whitespace : List Line
whitespace =
    crlf (BlankLine (remark empty one))
    ∷ crlf (KeyValLine spaces (record { assign = assign (key 0x78); value = digit 0x31 }) (remark space two))
    ∷ crlf (BlankLine (remark empty three))
    ∷ crlf (KeyValLine tab (record { assign = record { key = spaced 0x79 space space 0x7A; before_equals = spaces; after_equals = tab }; value = digit 0x32 }) (remark tab four))
    ∷ crlf (TableLine space (record { before = space; key = spaced 0x61 tab spaces 0x62; after = space }) (remark space five))
    ∷ crlf (ArrayTableLine tab (record { before = spaces; key = spaced 0x76 space space 0x77; after = tab }) no_tail)
    ∷ crlf (KeyValLine tab (record { assign = assign (key 0x63); value = digit 0x33 }) (remark space six))
    ∷ record { expr = BlankLine no_tail; newline = empty } ∷ []

-- its lines: `# one`
abbrev line_one : List ℕ
line_one = 0x23 ∷ 0x20 ∷ 0x6F ∷ 0x6E ∷ 0x65 ∷ 0x0D ∷ 0x0A ∷ []

-- `  x = 1 # two`
abbrev line_two : List ℕ
line_two = 0x20 ∷ 0x20 ∷ 0x78 ∷ 0x20 ∷ 0x3D ∷ 0x20 ∷ 0x31 ∷ 0x20 ∷ 0x23 ∷ 0x20 ∷ 0x74 ∷ 0x77 ∷ 0x6F ∷ 0x0D ∷ 0x0A ∷ []

-- `# three`
abbrev line_three : List ℕ
line_three = 0x23 ∷ 0x20 ∷ 0x74 ∷ 0x68 ∷ 0x72 ∷ 0x65 ∷ 0x65 ∷ 0x0D ∷ 0x0A ∷ []

-- `\ty . z  =\t2\t# four`
abbrev line_four : List ℕ
line_four = 0x09 ∷ 0x79 ∷ 0x20 ∷ 0x2E ∷ 0x20 ∷ 0x7A ∷ 0x20 ∷ 0x20 ∷ 0x3D ∷ 0x09 ∷ 0x32 ∷ 0x09 ∷ 0x23 ∷ 0x20 ∷ 0x66 ∷ 0x6F ∷ 0x75 ∷ 0x72 ∷ 0x0D ∷ 0x0A ∷ []

-- ` [ a\t.  b ] # five`
abbrev line_five : List ℕ
line_five = 0x20 ∷ 0x5B ∷ 0x20 ∷ 0x61 ∷ 0x09 ∷ 0x2E ∷ 0x20 ∷ 0x20 ∷ 0x62 ∷ 0x20 ∷ 0x5D ∷ 0x20 ∷ 0x23 ∷ 0x20 ∷ 0x66 ∷ 0x69 ∷ 0x76 ∷ 0x65 ∷ 0x0D ∷ 0x0A ∷ []

-- `\t[[  v . w\t]]`
abbrev line_array : List ℕ
line_array = 0x09 ∷ 0x5B ∷ 0x5B ∷ 0x20 ∷ 0x20 ∷ 0x76 ∷ 0x20 ∷ 0x2E ∷ 0x20 ∷ 0x77 ∷ 0x09 ∷ 0x5D ∷ 0x5D ∷ 0x0D ∷ 0x0A ∷ []

-- `\tc = 3 # six`
abbrev line_six : List ℕ
line_six = 0x09 ∷ 0x63 ∷ 0x20 ∷ 0x3D ∷ 0x20 ∷ 0x33 ∷ 0x20 ∷ 0x23 ∷ 0x20 ∷ 0x73 ∷ 0x69 ∷ 0x78 ∷ 0x0D ∷ 0x0A ∷ []

same_whitespace : text whitespace ≡ line_one ++ line_two ++ line_three ++ line_four ++ line_five ++ line_array ++ line_six
unfolding name_of
same_whitespace = refl

-- `set` in the last element of the array: `\tc = 9 # six`
whitespace_set : text (set_lines (Name (0x76 ∷ []) ∷ Name (0x77 ∷ []) ∷ Index 0 ∷ Name (0x63 ∷ []) ∷ []) nine whitespace) ≡ line_one ++ line_two ++ line_three ++ line_four ++ line_five ++ line_array ++ (0x09 ∷ 0x63 ∷ 0x20 ∷ 0x3D ∷ 0x20 ∷ 0x39 ∷ 0x20 ∷ 0x23 ∷ 0x20 ∷ 0x73 ∷ 0x69 ∷ 0x78 ∷ 0x0D ∷ 0x0A ∷ [])
unfolding name_of
whitespace_set = refl

-- `set` of a dotted key's value: `\ty . z  =\t9\t# four`
whitespace_set_dotted : text (set_lines (Name (0x79 ∷ []) ∷ Name (0x7A ∷ []) ∷ []) nine whitespace) ≡ line_one ++ line_two ++ line_three ++ (0x09 ∷ 0x79 ∷ 0x20 ∷ 0x2E ∷ 0x20 ∷ 0x7A ∷ 0x20 ∷ 0x20 ∷ 0x3D ∷ 0x09 ∷ 0x39 ∷ 0x09 ∷ 0x23 ∷ 0x20 ∷ 0x66 ∷ 0x6F ∷ 0x75 ∷ 0x72 ∷ 0x0D ∷ 0x0A ∷ []) ++ line_five ++ line_array ++ line_six
unfolding name_of
whitespace_set_dotted = refl

-- `insert` behind the last line before the headers: `n = 9`
whitespace_insert : text (insert_lines (0x6E ∷ []) nine (manner_of layouts.Plain whitespace) whitespace) ≡ line_one ++ line_two ++ line_three ++ line_four ++ (0x6E ∷ 0x20 ∷ 0x3D ∷ 0x20 ∷ 0x39 ∷ 0x0D ∷ 0x0A ∷ []) ++ line_five ++ line_array ++ line_six
unfolding name_of
whitespace_insert = refl

-- `remove` between lines with comments
whitespace_remove : text (remove_lines (Name (0x78 ∷ []) ∷ []) whitespace) ≡ line_one ++ line_three ++ line_four ++ line_five ++ line_array ++ line_six
unfolding name_of
whitespace_remove = refl

-- `rename` in a header: ` [ a\t.  q ] # five`
whitespace_rename : text (rename_lines (Name (0x61 ∷ []) ∷ Name (0x62 ∷ []) ∷ []) (0x71 ∷ []) whitespace) ≡ line_one ++ line_two ++ line_three ++ line_four ++ (0x20 ∷ 0x5B ∷ 0x20 ∷ 0x61 ∷ 0x09 ∷ 0x2E ∷ 0x20 ∷ 0x20 ∷ 0x71 ∷ 0x20 ∷ 0x5D ∷ 0x20 ∷ 0x23 ∷ 0x20 ∷ 0x66 ∷ 0x69 ∷ 0x76 ∷ 0x65 ∷ 0x0D ∷ 0x0A ∷ []) ++ line_array ++ line_six
unfolding name_of
whitespace_rename = refl

-- in a dotted key: `\tq . z  =\t2\t# four`
whitespace_rename_dotted : text (rename_lines (Name (0x79 ∷ []) ∷ []) (0x71 ∷ []) whitespace) ≡ line_one ++ line_two ++ line_three ++ (0x09 ∷ 0x71 ∷ 0x20 ∷ 0x2E ∷ 0x20 ∷ 0x7A ∷ 0x20 ∷ 0x20 ∷ 0x3D ∷ 0x09 ∷ 0x32 ∷ 0x09 ∷ 0x23 ∷ 0x20 ∷ 0x66 ∷ 0x6F ∷ 0x75 ∷ 0x72 ∷ 0x0D ∷ 0x0A ∷ []) ++ line_five ++ line_array ++ line_six
unfolding name_of
whitespace_rename_dotted = refl

-- in the header of an array of tables: `\t[[  v . q\t]]`
whitespace_rename_array : text (rename_lines (Name (0x76 ∷ []) ∷ Name (0x77 ∷ []) ∷ []) (0x71 ∷ []) whitespace) ≡ line_one ++ line_two ++ line_three ++ line_four ++ line_five ++ (0x09 ∷ 0x5B ∷ 0x5B ∷ 0x20 ∷ 0x20 ∷ 0x76 ∷ 0x20 ∷ 0x2E ∷ 0x20 ∷ 0x71 ∷ 0x09 ∷ 0x5D ∷ 0x5D ∷ 0x0D ∷ 0x0A ∷ []) ++ line_six
unfolding name_of
whitespace_rename_array = refl
