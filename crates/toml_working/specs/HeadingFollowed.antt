-- `section` and `element` in layout `Follow`: where the header line of a new table, or of a new element of an array of tables, goes among
-- lines. `may_blank` tells whether a blank line may be written.
use Rattle.std.specs.Prelude.{ℕ, Bool, ◌&&◌, List, [], ◌∷◌, ◌++◌, map, Option, Some, None, option_map, if◌then◌else◌}
use Rattle.std.specs.List.{list_any}
use Rattle.toml_tree.specs.Bare.{fresh}
use Rattle.toml_tree.specs.Tree.{Line}
use Rattle.toml_names.specs.model.Addresses.{Address}
use Rattle.toml_layout.specs.declared.tree.Brackets.{Brackets}
use Rattle.toml_working.specs.FollowingHeaders.{family, header_ws, is_filled, wants_blank}
use Rattle.toml_working.specs.Heading.{Shown, header_line, line_at_end, shown}
use Rattle.toml_working.specs.InsertStanding.{has_pair}
use Rattle.toml_working.specs.Removing.{empty_line}
use Rattle.toml_working.specs.Standing.{Standing, is_below, standing}

-- ---- behind a section

-- the header line at the address behind these lines
abbrev pub header_line_behind : Address → Brackets → List ℕ → List Standing → Line
header_line_behind p brackets style front = header_line brackets p (header_ws p front) style

-- lines of a section from one of its lines on, with a new line behind the last one with a key and a value, or behind the first line where
-- there is none; no lines where only blank ones follow that place. `front` are the lines before them.
abbrev pub line_behind_section : (List Standing → Line) → List Standing → List Shown → Option (List Line)
line_behind_section new front [] = None
line_behind_section new front ((l, s) ∷ xs) = option_map (λ r. l ∷ r) (
    if has_pair (map (λ (x : Shown). x.1) xs) then line_behind_section new (front ++ s ∷ []) xs
    else if list_any is_filled (map (λ (x : Shown). x.1) xs) then Some (new (front ++ s ∷ []) ∷ map (λ (x : Shown). x.0) xs) else None)

-- lines with a new one so put in behind the section of the last line at the address or below it
abbrev pub line_behind_below : Address → (List Standing → Line) → List Standing → List Shown → Option (List Line)
line_behind_below r new front [] = None
line_behind_below r new front ((l, s) ∷ xs) =
    if list_any (is_below r) (map (λ (x : Shown). x.1) xs) then option_map (λ t. l ∷ t) (line_behind_below r new (front ++ s ∷ []) xs)
    else if is_below r s then line_behind_section new front ((l, s) ∷ xs) else None

-- behind the last section of the family; the root is no family
abbrev pub line_behind_family : Address → (List Standing → Line) → List Shown → Option (List Line)
line_behind_family [] new xs = None
line_behind_family (s ∷ r) new xs = line_behind_below (s ∷ r) new [] xs

-- ---- at the end

-- The last line, of no bytes, gets this newline, so that it is a blank line; one of no bytes follows.
abbrev pub blank_at_end : List ℕ → List Line → List Line
blank_at_end style [] = []
blank_at_end style (l ∷ []) = record { expr = l.expr; newline = fresh style } ∷ empty_line ∷ []
blank_at_end style (l ∷ m ∷ ls) = l ∷ blank_at_end style (m ∷ ls)

-- a header line at the end of the text, behind a blank line where one may be written and is due
abbrev pub header_at_end : Address → Brackets → List ℕ → Bool → List Line → List Line
header_at_end p brackets style may_blank lines =
    line_at_end (header_line brackets p (header_ws p (standing lines))) style (if may_blank && wants_blank (standing lines) then blank_at_end style lines else lines)

-- these lines, if there are any, else those with the header line at the end
abbrev pub or_header_at_end : Address → Brackets → List ℕ → Bool → List Line → Option (List Line) → List Line
or_header_at_end p brackets style may_blank lines None = header_at_end p brackets style may_blank lines
or_header_at_end p brackets style may_blank lines (Some put) = put

-- the header line of what is to stand at `p`, right below `q`, put in among lines by layout `Follow`: behind the last section of its family, where
-- more than blank lines follow there, else at the end
abbrev pub with_header_following : Address → Brackets → Address → List ℕ → Bool → List Line → List Line
with_header_following q brackets p style may_blank lines =
    or_header_at_end p brackets style may_blank lines (line_behind_family (family q p (standing lines)) (header_line_behind p brackets style) (shown lines))
