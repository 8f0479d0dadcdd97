-- Examples, computed: a `section`, and an `element`. Each text was written by hand.
use Rattle.std.proofs.Common.{◌≡◌, ℕ, Bool, true, false, List, [], ◌∷◌, ◌++◌, refl}
use Rattle.toml_scalar.specs.Values.{name_of}
use Rattle.toml_tree.specs.Bare.{fresh}
use Rattle.toml_tree.specs.Tree.{ArrayTableLine, TableLine, Line}
use Rattle.toml_names.specs.declared.model.address.Step.TheVariants.{Name}
use Rattle.toml_names.specs.model.Addresses.{Address, child, element}
use Rattle.toml_edits.specs.Edits.{new_section}
use Rattle.toml_layout.specs.declared.layout.Layout.{Layout}
use Rattle.toml_layout.specs.declared.layout.Layout.TheVariants.{Plain, Follow}
use Rattle.toml_layout.specs.declared.tree.Brackets.TheVariants.{One, Two}
use Rattle.toml_working.specs.Manners.{Manner}
use Rattle.toml_editor.specs.EditedLines.{manner_after, with_header}
use Rattle.toml_editor.proofs.written.Examples.{array, digit, document, empty, ended, first, fourth, header, key, keyval, last, no_tail, table, text, third}
use Rattle.toml_editor.proofs.written.ExamplesBelow.{elements, no_bytes, t, u}

-- in LF; a blank line may be written, or not
abbrev by : Layout → Bool → Manner
by layout may_blank = record { newline = 0x0A ∷ []; layout = layout; may_blank = may_blank }

-- lines with the section of the name `w` in a table
abbrev with_section : Manner → Address → List Line → List Line
with_section manner q lines = with_header manner.layout q One (child q (0x77 ∷ [])) manner lines

-- lines with an element of `u`
abbrev with_element : Manner → ℕ → List Line → List Line
with_element manner i lines = with_header manner.layout (Name (0x75 ∷ []) ∷ []) Two (element (Name (0x75 ∷ []) ∷ []) i) manner lines

-- `[t]`, `[[u]]`, `c = 3`
abbrev table_line : Line
table_line = ended (TableLine empty (header (key 0x74)) no_tail)

abbrev array_line : Line
array_line = ended (ArrayTableLine empty (header (key 0x75)) no_tail)

abbrev pair_line : Line
pair_line = ended (keyval (key 0x63) (digit 0x33))

-- `[w]`
abbrev new : List ℕ
new = 0x5B ∷ 0x77 ∷ 0x5D ∷ 0x0A ∷ []

-- ---- in layout `Plain`

-- at the root, behind a last line: that gets a newline
section_at_end : text (with_section (by Plain true) [] document) ≡ first ++ table ++ third ++ array ++ fourth ++ last ++ 0x0A ∷ 0x5B ∷ 0x77 ∷ 0x5D ∷ []
unfolding name_of
section_at_end = refl

-- before a last line of no bytes: `[t]`, `[t.w]`
section_of_table : text (with_section (by Plain true) t (table_line ∷ no_bytes ∷ [])) ≡ table ++ 0x5B ∷ 0x74 ∷ 0x2E ∷ 0x77 ∷ 0x5D ∷ 0x0A ∷ []
unfolding name_of
section_of_table = refl

-- in the first of two elements, before the second: `[[u]]`, `c = 3`, `[u.w]`, `[[u]]`
section_of_element : text (with_section (by Plain true) u elements) ≡ array ++ third ++ 0x5B ∷ 0x75 ∷ 0x2E ∷ 0x77 ∷ 0x5D ∷ 0x0A ∷ array
unfolding name_of
section_of_element = refl

-- a third element, at the end
element_at_end : text (with_element (by Plain true) 2 elements) ≡ array ++ third ++ array ++ array
unfolding name_of
element_at_end = refl

-- ---- in layout `Follow`

-- a second element, behind the first: `[[u]]`, `c = 3`, `[[u]]`, `[t]`
element_followed : text (with_element (by Follow true) 1 (array_line ∷ pair_line ∷ table_line ∷ no_bytes ∷ [])) ≡ array ++ third ++ array ++ table
unfolding name_of
element_followed = refl

-- a first element, at the end, which no section is beside: `[t]`, a blank line, `[[u]]`
element_first : text (with_element (by Follow true) 0 (table_line ∷ no_bytes ∷ [])) ≡ table ++ 0x0A ∷ array
unfolding name_of
element_first = refl

-- at the end, behind a blank line: `[t]`, a blank line, `[w]`
section_parted : text (with_section (by Follow true) [] (table_line ∷ no_bytes ∷ [])) ≡ table ++ 0x0A ∷ new
unfolding name_of
section_parted = refl

-- behind it no other blank line may be written: `[t]`, a blank line, `[w]`, `[[u]]`
blank_once : manner_after (new_section (child [] (0x77 ∷ []))) (by Follow true) (table_line ∷ no_bytes ∷ []) ≡ by Follow false
unfolding name_of
blank_once = refl

element_behind : text (with_element (by Follow false) 0 (with_section (by Follow true) [] (table_line ∷ no_bytes ∷ []))) ≡ table ++ 0x0A ∷ new ++ array
unfolding name_of
element_behind = refl

-- the last section stands directly behind a key: `c = 3`, `[t]`, `[w]`
section_close : text (with_section (by Follow true) [] (pair_line ∷ table_line ∷ no_bytes ∷ [])) ≡ third ++ table ++ new
unfolding name_of
section_close = refl

-- as far in as the last header of as many parts: ` [t]`, ` [w]`
section_indented : text (with_section (by Follow false) [] (ended (TableLine (fresh (0x20 ∷ [])) (header (key 0x74)) no_tail) ∷ no_bytes ∷ [])) ≡ 0x20 ∷ table ++ 0x20 ∷ new
unfolding name_of
section_indented = refl
