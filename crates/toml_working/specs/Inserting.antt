-- `insert` of a name at the root, or in a table that has a header: a new line. And the new line of any key, in
-- whatever table.
use Rattle.std.specs.Prelude.{ℕ, Bool, true, false, ◌&&◌, not, is_some, List, [], ◌∷◌, ◌++◌, if◌then◌else◌, None}
use Rattle.toml_tree.specs.Bare.{fresh}
use Rattle.toml_tree.specs.Tree.{Assign, Value, Expr, BlankLine, KeyValLine, TableLine, ArrayTableLine, Line}
use Rattle.toml_layout.specs.declared.layout.Layout.{Layout}
use Rattle.toml_layout.specs.declared.layout.Layout.TheVariants as layouts
use Rattle.toml_names.specs.mentions.Keys.{Key}
use Rattle.toml_names.specs.mentions.Mentions.{named}
use Rattle.toml_names.specs.model.Addresses.{Address}
use Rattle.toml_working.specs.declared.lines.Sought.TheVariants as sought
use Rattle.toml_working.specs.FirstKeys.{like_before, spacing_like}
use Rattle.toml_working.specs.FreshKeys.{key_named}
use Rattle.toml_working.specs.Manners.{Manner}
use Rattle.toml_working.specs.Seeing.{is_sought_line}
use Rattle.toml_working.specs.Standing.{line_stands, standing}
use Rattle.toml_layout.specs.Spacings.{Spacing, laid_out, plain_spacing, spaced_as}

-- the key, `=` and the value, with this whitespace
abbrev pub new_assign : Spacing → Key → Assign
new_assign s key = record { key = key_named key; before_equals = fresh s.before_equals; after_equals = fresh s.after_equals }

abbrev pub new_expr : Spacing → Key → Value → Expr
new_expr s key v = KeyValLine (fresh s.ws) (record { assign = new_assign s key; value = v }) (record { ws = fresh []; comment = None })

abbrev pub new_line : Spacing → Key → Value → List ℕ → Line
new_line s key v newline = record { expr = new_expr s key v; newline = fresh newline }

-- the whitespace of a line behind another one: that of this one, where it has a key and a value
abbrev pub spacing_of : Expr → Spacing
spacing_of (BlankLine b) = plain_spacing
spacing_of (KeyValLine ws pair tail) = spaced_as ws.text pair.assign.before_equals.text pair.assign.after_equals.text
spacing_of (TableLine ws header tail) = plain_spacing
spacing_of (ArrayTableLine ws header tail) = plain_spacing

abbrev pub spacing_behind : Manner → Line → Spacing
spacing_behind manner l = laid_out manner.layout (spacing_of l.expr)

-- behind a line, with this whitespace: a former last line gets the newline of new lines, and the new one ends without
abbrev pub line_put : Spacing → Key → Value → Manner → Line → List Line → List Line
line_put s key v manner l [] = record { expr = l.expr; newline = fresh manner.newline } ∷ new_line s key v [] ∷ []
line_put s key v manner l (m ∷ ms) = l ∷ new_line s key v manner.newline ∷ m ∷ ms

-- with that of the line
abbrev pub line_behind : List ℕ → Value → Manner → Line → List Line → List Line
line_behind name v manner l = line_put (spacing_behind manner l) (name ∷ []) v manner l

-- behind the last one of some lines, with whitespace by that; `more` tells of the lines behind one whether another of them follows
abbrev pub put_last : (List Line → Bool) → (Line → Spacing) → Key → Value → Manner → List Line → List Line
put_last more spacing key v manner [] = []
put_last more spacing key v manner (l ∷ ls) =
    if more ls then l ∷ put_last more spacing key v manner ls else line_put (spacing l) key v manner l ls

abbrev pub insert_behind : (List Line → Bool) → List ℕ → Value → Manner → List Line → List Line
insert_behind more name v manner = put_last more (spacing_behind manner) (name ∷ []) v manner

-- whether a keyval line stands before the first header
abbrev pub has_pair : List Line → Bool
has_pair [] = false
has_pair (l ∷ ls) = elim l.expr [ BlankLine b ↦ has_pair ls | KeyValLine ws pair tail ↦ true | TableLine ws header tail ↦ false | ArrayTableLine ws header tail ↦ false ]

-- whether a comment stands on a line alone, and whether nothing does
abbrev pub is_comment : Expr → Bool
is_comment (BlankLine b) = is_some b.comment
is_comment (KeyValLine ws pair tail) = false
is_comment (TableLine ws header tail) = false
is_comment (ArrayTableLine ws header tail) = false

abbrev pub is_blank : Expr → Bool
is_blank (BlankLine b) = not (is_some b.comment)
is_blank (KeyValLine ws pair tail) = false
is_blank (TableLine ws header tail) = false
is_blank (ArrayTableLine ws header tail) = false

-- whether lines begin with a comment line
abbrev pub has_comment : List Line → Bool
has_comment [] = false
has_comment (l ∷ ls) = is_comment l.expr

-- whether a blank line, or the end, follows the comment lines with which lines begin
abbrev pub comments_end : List Line → Bool
comments_end [] = true
comments_end (l ∷ ls) = if is_comment l.expr then comments_end ls else is_blank l.expr

-- whether the first line of the root goes below the comment lines with which the text begins
abbrev pub goes_below : Layout → List Line → Bool
goes_below layouts.Plain lines = false
goes_below layouts.Follow lines = has_comment lines && comments_end lines

-- the first line of the root: below these, or before all lines
abbrev pub insert_first : List ℕ → Value → Manner → List Line → List Line
insert_first name v manner lines =
    if goes_below manner.layout lines then insert_behind has_comment name v manner lines else new_line plain_spacing (name ∷ []) v manner.newline ∷ lines

-- behind the last keyval line before the first header, or as the first line of the root
abbrev pub insert_lines : List ℕ → Value → Manner → List Line → List Line
insert_lines name v manner lines = if has_pair lines then insert_behind has_pair name v manner lines else insert_first name v manner lines

-- the whitespace of a line that is put in behind this one, a header or a keyval line; `before` are the lines before the header of its section
abbrev pub spacing_put : Manner → List Line → Line → Spacing
spacing_put manner before l = laid_out manner.layout (elim l.expr [
  | BlankLine b ↦ plain_spacing
  | KeyValLine ws pair tail ↦ spacing_of l.expr
  | TableLine ws header tail ↦ spacing_like ws.text (like_before ws.text (standing before))
  | ArrayTableLine ws header tail ↦ spacing_like ws.text (like_before ws.text (standing before))
])

-- whether a line behind these is the header of the table at the address
abbrev pub is_header_of : Address → List Line → Line → Bool
is_header_of q before l = is_sought_line sought.Header q (line_stands (named before) l)

-- in the section of the table at the address: behind its last keyval line, or behind its header; `before` are the lines in front of these
abbrev pub insert_from : Address → List ℕ → Value → Manner → List Line → List Line → List Line
insert_from q name v manner before [] = []
insert_from q name v manner before (l ∷ ls) =
    if is_header_of q before l then put_last has_pair (spacing_put manner before) (name ∷ []) v manner (l ∷ ls)
    else l ∷ insert_from q name v manner (before ++ l ∷ []) ls
