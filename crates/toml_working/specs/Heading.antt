-- `section` and `element`: the header line of a new table, or of a new element of an array of tables, among lines.
use Rattle.std.specs.Prelude.{ℕ, ◌+◌, List, [], ◌∷◌, ◌++◌, map, Option, Some, None, option_map, if◌then◌else◌}
use Rattle.toml_tree.specs.Bare.{fresh}
use Rattle.toml_tree.specs.Tree.{Header, Expr, TableLine, ArrayTableLine, Line}
use Rattle.toml_names.specs.mentions.Mentions.{Named, named_by, root}
use Rattle.toml_names.specs.model.Addresses.{Address}
use Rattle.toml_layout.specs.TreeOutlines.{line_outline}
use Rattle.toml_layout.specs.declared.tree.Brackets.{Brackets}
use Rattle.toml_layout.specs.declared.tree.Brackets.TheVariants.{One, Two}
use Rattle.toml_working.specs.declared.lines.Sought.TheVariants as sought
use Rattle.toml_working.specs.FreshKeys.{key_named}
use Rattle.toml_working.specs.Headers.{has_below, has_no_bytes, innermost, names_of}
use Rattle.toml_working.specs.Placing.{is_header}
use Rattle.toml_working.specs.Removing.{no_blank}
use Rattle.toml_working.specs.Seeing.{is_sought_line}
use Rattle.toml_working.specs.Standing.{Standing, line_stands}

-- ---- the line

-- the header of what stands at the address
abbrev pub fresh_header : Address → Header
fresh_header p = record { before = fresh []; key = key_named (names_of p); after = fresh [] }

-- the expression of a header line: the header behind this whitespace
abbrev pub header_expr : Brackets → Address → List ℕ → Expr
header_expr One p ws = TableLine (fresh ws) (fresh_header p) no_blank
header_expr Two p ws = ArrayTableLine (fresh ws) (fresh_header p) no_blank

-- the line with it, and with this newline
abbrev pub header_line : Brackets → Address → List ℕ → List ℕ → Line
header_line brackets p ws newline = record { expr = header_expr brackets p ws; newline = fresh newline }

-- ---- where it goes, in layout `Plain`

-- a line, and what stands on it
abbrev pub Shown : Type 0
Shown = Line × Standing

-- lines so, after what was named before them
abbrev pub shown_from : List Named → ℕ → List Line → List Shown
shown_from earlier n [] = []
shown_from earlier n (l ∷ ls) = (l, line_stands earlier l) ∷ shown_from (earlier ++ named_by earlier n l.expr) (n + 1) ls

abbrev pub shown : List Line → List Shown
shown = shown_from (root ∷ []) 0

-- lines with a new one before their first header line, if they have one
abbrev pub line_before_header : Line → List Shown → Option (List Line)
line_before_header new [] = None
line_before_header new ((l, s) ∷ ls) =
    if is_header s.base s.address then Some (new ∷ l ∷ map (λ (x : Shown). x.0) ls) else option_map (λ r. l ∷ r) (line_before_header new ls)

-- lines with a new one before the first header line behind the last one that stands at the element or below it, if there is one
abbrev pub line_before_next : Address → Line → List Shown → Option (List Line)
line_before_next e new [] = None
line_before_next e new ((l, s) ∷ ls) = option_map (λ r. l ∷ r) (
    if has_below e (map (λ (x : Shown). x.1) ls) then line_before_next e new ls
    else if is_sought_line sought.HeaderBelow e s then line_before_header new ls else None)

-- A line, by its newline, and a new one behind it. What has no newline is a former last line: it gets that of new lines, and the new one has
-- none.
abbrev pub line_put_after : (List ℕ → Line) → List ℕ → Line → List ℕ → List Line
line_put_after new style l [] = record { expr = l.expr; newline = fresh style } ∷ new [] ∷ []
line_put_after new style l (b ∷ bs) = l ∷ new style ∷ []

-- a new line at the end of the text: before the last line where that has no bytes, else behind it
abbrev pub line_at_end : (List ℕ → Line) → List ℕ → List Line → List Line
line_at_end new style [] = []
line_at_end new style (l ∷ []) = if has_no_bytes (line_outline l) then new style ∷ l ∷ [] else line_put_after new style l l.newline.text
line_at_end new style (l ∷ m ∷ ls) = l ∷ line_at_end new style (m ∷ ls)

-- these lines, if there are any, else those with the new one at the end
abbrev pub or_line_at_end : (List ℕ → Line) → List ℕ → List Line → Option (List Line) → List Line
or_line_at_end new style lines None = line_at_end new style lines
or_line_at_end new style lines (Some put) = put

-- before the next header line behind the last one of the element, if there are such; else, or in no element, at the end of the text
abbrev pub line_put_plainly : Option Address → (List ℕ → Line) → List ℕ → List Line → List Line
line_put_plainly None new style lines = line_at_end new style lines
line_put_plainly (Some e) new style lines = or_line_at_end new style lines (line_before_next e (new style) (shown lines))

-- the header line of what is to stand at `p`, right below `q`, put in among lines by layout `Plain`
abbrev pub with_header_plainly : Address → Brackets → Address → List ℕ → List Line → List Line
with_header_plainly q brackets p style lines = line_put_plainly (innermost q) (header_line brackets p []) style lines
