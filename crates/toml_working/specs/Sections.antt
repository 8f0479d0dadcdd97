-- A line with a key and a value that is put into the section of a table.
use Rattle.std.specs.Prelude.{◌≡◌, ◌⊎◌, ◌==◌, ◌&&◌, ℕ, Bool, true, false, List, [], ◌∷◌, ◌++◌, length, Option, Some, None, IfSome, MatchOption}
use Rattle.std.specs.declared.alloc.Global.{Global}
use Rattle.std.specs.declared.string.String.{String}
use Rattle.toml_names.specs.model.Addresses.{Address}
use Rattle.toml_text.specs.Source.{text_of}
use Rattle.toml_tree.specs.Spells.{EachIs}
use Rattle.toml_tree.specs.Tree as tree
use Rattle.toml_units.specs.declared.unit.Unit.{Unit as ReadUnit}
use Rattle.toml_layout.specs.Beginnings.{begins}
use Rattle.toml_layout.specs.Outlines.{ValueOutline}
use Rattle.toml_working.specs.declared.lines.Slot.{Slot}
use Rattle.toml_working.specs.declared.lines.Sought.TheVariants as sought
use Rattle.toml_working.specs.declared.working.Position.{Position}
use Rattle.toml_working.specs.declared.working.Tree.{Tree}
use Rattle.toml_working.specs.FirstKeys.{spacing_put}
use Rattle.toml_working.specs.InsertStanding.{has_pair, line_put}
use Rattle.toml_working.specs.Manners.{Manner}
use Rattle.toml_working.specs.Placing.{IsLastPair, IsNoHeader, IsPair, lines_from}
use Rattle.toml_working.specs.Putting.{IsNameIn, manner}
use Rattle.toml_working.specs.Seeing.{AreHeaded, is_sought_line, line_at, read_by}
use Rattle.toml_working.specs.Standing.{Standing, Read, AreOrdered}
use Rattle.toml_working.specs.Stands.{Stands}

-- whether a line with this base and address has a key and a value, and stands in the section of the table
abbrev pub stands_in : Address → Option ℕ → Option Address → Bool
stands_in q None own = false
stands_in q (Some n) None = false
stands_in q (Some n) (Some a) = (n == length q) && begins q a

abbrev pub is_of_section : Address → Standing → Bool
is_of_section q s = stands_in q s.base s.address

-- the line at a place, if there is one, has a key and a value, and stands in the section of the table
abbrev pub IsOfSectionAt : Address → List ReadUnit → List Slot → Position → Type 0
IsOfSectionAt q units slots at = (lines : List tree.Line) → IfSome (line_at (read_by units lines) slots at) (λ s. is_of_section q s ≡ true)

-- the line at the place is the last one with a key and a value from another place on
abbrev pub IsEndFrom : List ReadUnit → List Slot → Position → Position → Type 0
IsEndFrom units slots start at = (lines : List tree.Line) → let read = read_by units lines in
    IsLastPair read slots (lines_from read slots start.slot start.index) at

-- it is the last one from this place on, or from another on, and then it stands in the section of the table
pub record EndsSection (q : Address) (read : Read) (slots : List Slot) (from at : Position) : Type 0 where
  pub start : Position
  pub last : IsLastPair read slots (lines_from read slots start.slot start.index) at
  pub there : ((start.slot ≡ from.slot) × (start.index ≡ from.index)) ⊎ (is_of_section q last.line ≡ true)

-- such a line is found, or there is none with a key and a value from the place on
abbrev pub FindsSectionEnd : Address → List ReadUnit → List Slot → Position → Option Position → Type 0
FindsSectionEnd q units slots from result = (lines : List tree.Line) → let read = read_by units lines in
    MatchOption result (has_pair (lines_from read slots from.slot from.index) ≡ false) (EndsSection q read slots from)

-- behind lines that end with these stands the section of the table
abbrev pub IsBehindHeader : Address → List Standing → Type 0
IsBehindHeader q front = (before : List Standing) × (h : Standing) × (between : List Standing) × (front ≡ before ++ h ∷ between)
    × (is_sought_line sought.Header q h ≡ true) × EachIs IsNoHeader between

-- the line is the header of the table, or has a key and a value in its section
abbrev pub StandsBelow : Address → List Standing → Standing → Type 0
StandsBelow q front s = (is_sought_line sought.Header q s ≡ true) ⊎ (is_of_section q s ≡ true) ⊎ (IsPair s × IsBehindHeader q front)

-- The new line stands behind the last one with a key and a value in the section of the table, or behind its header, where the section has
-- none, with the whitespace of the layout.
pub record PutsInSection (q : Address) (name : List ℕ) (v : ValueOutline) (manner : Manner) (old now : List Standing) : Type 0 where
  pub front : List Standing
  pub line : Standing
  pub back : List Standing
  pub was : old ≡ front ++ line ∷ back
  pub last : has_pair back ≡ false
  pub below : StandsBelow q front line
  pub is : now ≡ front ++ (line_put q (spacing_put manner front line) (name ∷ []) v manner line line.outline.newline ++ back)

-- so it is put into a table that has a header and that no dotted key makes
abbrev pub InsertsBelow : Address → Address → List (String Global) → ValueOutline → Manner → List ℕ → Read → List Slot → List Slot → Type 0
InsertsBelow q at steps v manner text read old now = (name : List ℕ) → IsNameIn q name at steps → (ss : List Standing) → Stands text read old ss
    → AreHeaded q ss → (ts : List Standing) × Stands text read now ts × PutsInSection q name v manner ss ts

-- so it is of the lines of a tree
abbrev pub TreeInsertsBelow : Address → Address → List (String Global) → ValueOutline → Read → Tree → Tree → Type 0
TreeInsertsBelow q at steps v read old now =
    InsertsBelow q at steps v (manner old) (text_of old.texts.source) read old.slots.items now.slots.items

-- the same of a table that is not the root, and of lines as the table rules have them
abbrev pub TreePutsBelow : Address → Address → List (String Global) → ValueOutline → Read → Tree → Tree → Type 0
TreePutsBelow q at steps v read old now = ¬ (q ≡ []) → (name : List ℕ) → IsNameIn q name at steps → (ss : List Standing)
    → Stands (text_of old.texts.source) read old.slots.items ss → AreOrdered ss → AreHeaded q ss
    → (ts : List Standing) × Stands (text_of old.texts.source) read now.slots.items ts × PutsInSection q name v (manner old) ss ts
