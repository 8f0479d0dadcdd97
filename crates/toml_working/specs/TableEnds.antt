-- The line behind which a new one goes of a table that dotted keys make: from a place in its section on, the last one with a key and a value before
-- the next header, by layout `Follow` the last one of those that stand strictly below the table.
use Rattle.std.specs.Prelude.{◌≡◌, ◌⊎◌, ℕ, ◌+◌, ◌^◌, ◌<◌, Bool, true, false, List, ◌∷◌, ◌++◌, Option, Some, MatchOption, if◌then◌else◌}
use Rattle.toml_names.specs.model.Addresses.{Address}
use Rattle.toml_tree.specs.Spells.{EachIs}
use Rattle.toml_tree.specs.Tree as tree
use Rattle.toml_units.specs.declared.unit.Unit.{Unit as ReadUnit}
use Rattle.toml_layout.specs.declared.layout.Layout.{Layout}
use Rattle.toml_layout.specs.declared.layout.Layout.TheVariants as layouts
use Rattle.toml_working.specs.declared.lines.Slot.{Slot}
use Rattle.toml_working.specs.declared.working.Position.{Position}
use Rattle.toml_working.specs.DottedTables.{StandsInTable, has_in_table, has_more, is_in_table, stands_in_table}
use Rattle.toml_working.specs.Placing.{IsNoHeader, IsPair, lines_from}
use Rattle.toml_working.specs.Sections.{is_of_section}
use Rattle.toml_working.specs.Seeing.{line_at, read_by}
use Rattle.toml_working.specs.Standing.{Standing, Read}

-- the place of a line with a key and a value strictly below the table, or the last one of those before it
abbrev pub in_table_at : Address → Option ℕ → Option Address → Position → Option Position → Option Position
in_table_at q base own at last = if stands_in_table q base own then Some at else last

abbrev pub IsNotInTable : Address → Standing → Type 0
IsNotInTable q s = is_in_table q s ≡ false

-- the line at the place is the last such one of those in front, of which these are left
pub record IsLastInTable (q : Address) (read : Read) (slots : List Slot) (front rest : List Standing) (at : Position) : Type 0 where
  pub before : List Standing
  pub line : Standing
  pub between : List Standing
  pub is : front ≡ before ++ line ∷ between
  pub in_table : is_in_table q line ≡ true
  pub none : EachIs (IsNotInTable q) between
  pub there : line_at read slots at ≡ Some line
  pub next : at.index + 1 < 2 ^ 64
  pub from : lines_from read slots at.slot at.index ≡ line ∷ (between ++ rest)

-- so far no header was passed, and this is the last such line
pub record PassedInTable (q : Address) (read : Read) (slots : List Slot) (all rest : List Standing) (last : Option Position) : Type 0 where
  pub front : List Standing
  pub is : all ≡ front ++ rest
  pub heads : EachIs IsNoHeader front
  pub found : MatchOption last (EachIs (IsNotInTable q) front) (IsLastInTable q read slots front rest)

-- a slot is passed, or what is left begins with a header
abbrev pub PassedInTableBy : Address → Read → List Slot → List Standing → ℕ → Bool → Option Position → Type 0
PassedInTableBy q read slots all slot true last = (rest : List Standing) × (has_in_table q rest ≡ false) × PassedInTable q read slots all rest last
PassedInTableBy q read slots all slot false last = PassedInTable q read slots all (lines_from read slots (slot + 1) 0) last

abbrev pub PassesInTable : Address → List ReadUnit → List Slot → ℕ → ℕ → Option Position → Bool → Option Position → Type 0
PassesInTable q units slots slot index last ends found = (lines : List tree.Line) (all : List Standing) → let read = read_by units lines in
    PassedInTable q read slots all (lines_from read slots slot index) last → PassedInTableBy q read slots all slot ends found

-- the line at the place is the last one of these with a key and a value before the first header, by layout `Follow` the last one of the table
pub record IsLastFor (layout : Layout) (q : Address) (read : Read) (slots : List Slot) (all : List Standing) (at : Position) : Type 0 where
  pub front : List Standing
  pub line : Standing
  pub back : List Standing
  pub is : all ≡ front ++ line ∷ back
  pub heads : EachIs IsNoHeader front
  pub pair : IsPair line
  pub in_table : StandsInTable layout q line
  pub none : has_more layout q back ≡ false
  pub there : line_at read slots at ≡ Some line
  pub next : at.index + 1 < 2 ^ 64
  pub from : lines_from read slots at.slot at.index ≡ line ∷ back

-- of lines of the table that is found, or there is none
abbrev pub FindsInTable : Address → Read → List Slot → List Standing → Option Position → Type 0
FindsInTable q read slots all result = MatchOption result (has_in_table q all ≡ false) (IsLastFor layouts.Follow q read slots all)

-- of the lines from a place on that is found, or there is none
abbrev pub FindsLastInTable : Address → List ReadUnit → List Slot → Position → Option Position → Type 0
FindsLastInTable q units slots from result = (lines : List tree.Line) → let read = read_by units lines in
    FindsInTable q read slots (lines_from read slots from.slot from.index) result

abbrev pub IsLastInTableFrom : Address → List ReadUnit → List Slot → Position → Position → Type 0
IsLastInTableFrom q units slots start at = (lines : List tree.Line) → let read = read_by units lines in
    IsLastFor layouts.Follow q read slots (lines_from read slots start.slot start.index) at

-- it is the last one from this place on, or from another on, and then it stands in the section
pub record EndsAmong (layout : Layout) (section q : Address) (read : Read) (slots : List Slot) (from at : Position) : Type 0 where
  pub start : Position
  pub last : IsLastFor layout q read slots (lines_from read slots start.slot start.index) at
  pub there : ((start.slot ≡ from.slot) × (start.index ≡ from.index)) ⊎ (is_of_section section last.line ≡ true)

-- such a line is found, or there is none from the place on
abbrev pub FindsEnd : Layout → Address → Address → Read → List Slot → Position → Option Position → Type 0
FindsEnd layout section q read slots from result =
    MatchOption result (has_more layout q (lines_from read slots from.slot from.index) ≡ false) (EndsAmong layout section q read slots from)

abbrev pub FindsTableEnd : Address → Address → List ReadUnit → List Slot → Position → Option Position → Type 0
FindsTableEnd section q units slots from result = (lines : List tree.Line) → FindsEnd layouts.Follow section q (read_by units lines) slots from result

-- such a line is found where the line at the place is one
abbrev pub EndsTable : Layout → Address → Address → List ReadUnit → List Slot → Position → Position → Type 0
EndsTable layout section q units slots from at = (lines : List tree.Line) → let read = read_by units lines in
    (s : Standing) → line_at read slots from ≡ Some s → is_in_table q s ≡ true → EndsAmong layout section q read slots from at
