-- `insert` of a name in any table that is no value: where it has no header, a new line in the section whose dotted keys make it, or a new header
-- and a line before the first header below it.
use Rattle.std.specs.Prelude.{ℕ, Bool, false, ◌||◌, List, [], ◌∷◌, ◌++◌, length, map, drop, if◌then◌else◌}
use Rattle.std.specs.List.{list_any}
use Rattle.toml_tree.specs.Tree.{Value, BlankLine, KeyValLine, TableLine, ArrayTableLine, Line}
use Rattle.toml_names.specs.mentions.Keys.{Key, key_names}
use Rattle.toml_names.specs.mentions.Mentions.{named, section}
use Rattle.toml_names.specs.model.Addresses.{Address, below, child, is_above}
use Rattle.toml_layout.specs.declared.layout.Layout.{Layout}
use Rattle.toml_layout.specs.declared.layout.Layout.TheVariants as layouts
use Rattle.toml_layout.specs.declared.tree.Brackets.TheVariants.{One}
use Rattle.toml_working.specs.declared.lines.Sought.TheVariants as sought
use Rattle.toml_working.specs.Heading.{Shown, header_line, shown}
use Rattle.toml_working.specs.Headers.{names_of}
use Rattle.toml_working.specs.ImpliedTables.{lead_below, spacing_below, ws_ahead}
use Rattle.toml_working.specs.Inserting.{has_pair, insert_from, insert_lines, new_line, put_last, spacing_behind}
use Rattle.toml_working.specs.Manners.{Manner}
use Rattle.toml_working.specs.Seeing.{is_sought_line}
use Rattle.toml_working.specs.Standing.{Standing, line_stands, standing}

-- ---- a table that dotted keys make

-- whether a line with a key and a value stands below the table, before the first header; these lines stand in a section
abbrev pub has_in_table : Address → Address → List Line → Bool
has_in_table section q [] = false
has_in_table section q (l ∷ ls) = elim l.expr [
  | BlankLine b ↦ has_in_table section q ls
  | KeyValLine ws pair tail ↦ is_above q (below section (key_names pair.assign.key)) || has_in_table section q ls
  | TableLine ws header tail ↦ false
  | ArrayTableLine ws header tail ↦ false
]

-- whether one more of the lines follows behind the last of which the new one goes: of those with a key and a value, by layout `Follow` of those
-- below the table
abbrev pub has_more : Layout → Address → Address → List Line → Bool
has_more layouts.Plain section q ls = has_pair ls
has_more layouts.Follow section q ls = has_in_table section q ls

-- the names of the address behind so many steps
abbrev pub key_behind : ℕ → Address → Key
key_behind n p = names_of (drop n p)

-- whether the dotted key of a line behind these makes the table
abbrev pub is_maker_of : Address → List Line → Line → Bool
is_maker_of q before l = is_sought_line sought.Dotted q (line_stands (named before) l)

-- in the section of the first line whose dotted key makes the table; `before` are the lines in front of these
abbrev pub insert_among : Address → List ℕ → Value → Manner → List Line → List Line → List Line
insert_among q name v manner before [] = []
insert_among q name v manner before (l ∷ ls) =
    if is_maker_of q before l then
    put_last (has_more manner.layout (section (named before)) q) (spacing_behind manner) (key_behind (length (section (named before))) (child q name)) v manner (l ∷ ls)
    else l ∷ insert_among q name v manner (before ++ l ∷ []) ls

-- ---- a table that longer headers imply

-- the new header, and the line behind it, between lines
abbrev pub section_ahead : Address → List ℕ → Value → Manner → List Standing → List Standing → List Line
section_ahead q name v manner front back =
    header_line One q (ws_ahead manner.layout back) manner.newline
    ∷ new_line (spacing_below manner.layout (ws_ahead manner.layout back) front) (name ∷ []) v manner.newline ∷ []

-- they are put in before the first header below the table; by layout `Follow` before the comment lines directly above that
abbrev pub insert_ahead : Address → List ℕ → Value → Manner → List Standing → List Shown → List Line
insert_ahead q name v manner front [] = []
insert_ahead q name v manner front ((l, s) ∷ xs) =
    if lead_below manner.layout q (s ∷ map (λ (x : Shown). x.1) xs) then
    section_ahead q name v manner front (s ∷ map (λ (x : Shown). x.1) xs) ++ l ∷ map (λ (x : Shown). x.0) xs
    else l ∷ insert_ahead q name v manner (front ++ s ∷ []) xs

-- ---- in any table

-- in a table that is not the root: by its header, by a dotted key that makes it, or else by a longer header
abbrev pub insert_below : Address → List ℕ → Value → Manner → List Line → List Line
insert_below q name v manner lines =
    if list_any (is_sought_line sought.Header q) (standing lines) then insert_from q name v manner [] lines
    else if list_any (is_sought_line sought.Dotted q) (standing lines) then insert_among q name v manner [] lines
    else insert_ahead q name v manner [] (shown lines)

abbrev pub insert_in : Address → List ℕ → Value → Manner → List Line → List Line
insert_in [] name v manner lines = insert_lines name v manner lines
insert_in (s ∷ q) name v manner lines = insert_below (s ∷ q) name v manner lines
