-- Laws of lines by what finds them.
use Rattle.std.specs.Prelude.{◌≡◌, true, ℕ, Any, List, [], ◌∷◌, map}
use Rattle.std.specs.List.{list_any}
use Rattle.toml_tree.specs.Bare.{bare_lines}
use Rattle.toml_scalar.specs.Spelling.{spelled}
use Rattle.toml_tree.specs.Spells.{AreLines}
use Rattle.toml_tree.specs.Tree.{Value, Line}
use Rattle.toml_names.specs.declared.mentions.mention.Role.TheVariants.{Valued}
use Rattle.toml_names.specs.declared.model.address.Step.TheVariants.{Name}
use Rattle.toml_names.specs.mentions.Mentions.{named}
use Rattle.toml_names.specs.mentions.Rules.{KeepsRules}
use Rattle.toml_names.specs.model.Addresses.{Address, child}
use Rattle.toml_names.specs.model.Places.{IsNamed}
use Rattle.toml_working.specs.RenameStanding.{rename_standing}
use Rattle.toml_working.specs.Renaming.{rename_lines}
use Rattle.toml_working.specs.DottedTables.{AreDotted, PutsDotted}
use Rattle.toml_working.specs.ImpliedTables.{AreImplied, put_ahead}
use Rattle.toml_working.specs.InsertStanding.{AreRooted, insert_standing}
use Rattle.toml_working.specs.Inserting.{insert_lines}
use Rattle.toml_working.specs.InsertingInTables.{insert_in}
use Rattle.toml_working.specs.Manners.{Manner}
use Rattle.toml_working.specs.RemoveStanding.{remove_standing}
use Rattle.toml_working.specs.Removing.{remove_lines}
use Rattle.toml_working.specs.Setting.{set_lines}
use Rattle.toml_working.specs.declared.lines.Sought.TheVariants as sought
use Rattle.toml_working.specs.Sections.{PutsInSection}
use Rattle.toml_working.specs.Seeing.{AreHeaded, is_sought_line}
use Rattle.toml_working.specs.Standing.{AreOrdered, Standing, standing, set_standing, has}
use Rattle.toml_layout.specs.Outlines.{ValueOutline}
use Rattle.toml_layout.specs.TreeOutlines.{value_outline}
use Rattle.toml_working.specs.Premises.{HasDotted, HasImplied, HasLine, HasSection, HasValue}

-- Law: places do not count.
abbrev pub PlacesDoNotStand : Type 0
PlacesDoNotStand = (ls ms : List Line) → bare_lines ls ≡ bare_lines ms → standing ls ≡ standing ms

-- Law: under the table rules no line stands at the value of another or in it, and keys in values are apart.
abbrev pub RulesOrder : Type 0
RulesOrder = (lines : List Line) → KeepsRules (named lines) → AreOrdered (standing lines)

-- Laws: a value that lines name stands on one of them or in its value;
abbrev pub ValueStands : Type 0
ValueStands = (p : Address) (lines : List Line) → ¬ (p ≡ []) → HasValue lines p → list_any (has p) (standing lines) ≡ true

-- what stands so is a value that they name;
abbrev pub StandingIsValue : Type 0
StandingIsValue = (p : Address) (lines : List Line) → list_any (has p) (standing lines) ≡ true → HasValue lines p

-- and the lines after a `set` of it are what the `set` makes of the lines.
abbrev pub SetStands : Type 0
SetStands = (p : Address) (new : Value) (lines : List Line) → ¬ (p ≡ []) → HasValue lines p → KeepsRules (named lines)
    → standing (set_lines p new lines) ≡ map (set_standing p (value_outline new)) (standing lines)

-- Law: where nothing is named at the new name, the lines after a `rename` are what the `rename` makes of the lines.
abbrev pub RenameStands : Type 0
RenameStands = (q : Address) (n to : List ℕ) (lines : List Line)
    → AreLines lines → ¬ IsNamed (named lines) (child q to) → KeepsRules (named lines)
    → standing (rename_lines (child q n) to lines) ≡ map (rename_standing (child q n) to (spelled to)) (standing lines)

-- Laws: of lines in the forms those of the root come first, and the lines after an `insert` of a name at the root are what it makes of
-- the lines.
abbrev pub RootComesFirst : Type 0
RootComesFirst = (lines : List Line) → AreLines lines → AreRooted (standing lines)

abbrev pub InsertStands : Type 0
InsertStands = (name : List ℕ) (new : Value) (manner : Manner) (lines : List Line) → AreLines lines
    → standing (insert_lines name new manner lines) ≡ insert_standing name (value_outline new) manner (standing lines)

-- Laws: the lines after an `insert` in a table with a header have the new line in the section of the table,
abbrev pub InsertStandsBelow : Type 0
InsertStandsBelow = (q : Address) (name : List ℕ) (new : Value) (manner : Manner) (lines : List Line) → AreLines lines → ¬ (q ≡ []) → HasSection lines q
    → PutsInSection q name (value_outline new) manner (standing lines) (standing (insert_in q name new manner lines))

-- which is one place under the table rules, and no dotted key makes a table that has a header.
abbrev pub OnePlaceInSection : Type 0
OnePlaceInSection = (q : Address) (name : List ℕ) (v : ValueOutline) (manner : Manner) (lines : List Line) (now new : List Standing) → ¬ (q ≡ [])
    → KeepsRules (named lines) → PutsInSection q name v manner (standing lines) now → PutsInSection q name v manner (standing lines) new → now ≡ new

abbrev pub HeaderIsAlone : Type 0
HeaderIsAlone = (q : Address) (lines : List Line) → KeepsRules (named lines) → list_any (is_sought_line sought.Header q) (standing lines) ≡ true
    → AreHeaded q (standing lines)

-- Laws: the lines after an `insert` in a table that dotted keys make have the new line in the section of one that makes it;
abbrev pub InsertStandsAmong : Type 0
InsertStandsAmong = (q : Address) (name : List ℕ) (new : Value) (manner : Manner) (lines : List Line) → AreLines lines → ¬ (q ≡ []) → HasDotted lines q
    → PutsDotted q name (value_outline new) manner (standing lines) (standing (insert_in q name new manner lines))

-- this is one place under the table rules, and names alone lead from the section of each line that makes the table to the table.
abbrev pub OnePlaceAmong : Type 0
OnePlaceAmong = (q : Address) (name : List ℕ) (v : ValueOutline) (manner : Manner) (lines : List Line) (now new : List Standing)
    → KeepsRules (named lines) → PutsDotted q name v manner (standing lines) now → PutsDotted q name v manner (standing lines) new → now ≡ new

abbrev pub DottedIsKeyed : Type 0
DottedIsKeyed = (q : Address) (lines : List Line) → HasDotted lines q → AreDotted q (standing lines)

-- Laws: the lines after an `insert` in a table that longer headers imply have a new header and the new line before the first of these.
abbrev pub InsertStandsAhead : Type 0
InsertStandsAhead = (q : Address) (name : List ℕ) (new : Value) (manner : Manner) (lines : List Line) → AreLines lines → ¬ (q ≡ []) → KeepsRules (named lines)
    → HasImplied lines q → standing (insert_in q name new manner lines) ≡ put_ahead q name (value_outline new) manner [] (standing lines)

abbrev pub ImpliedIsBelow : Type 0
ImpliedIsBelow = (q : Address) (lines : List Line) → HasImplied lines q → AreImplied q (standing lines)

-- Laws: the value of a key at the root is that of a line,
abbrev pub RootPairIsLine : Type 0
RootPairIsLine = (name : List ℕ) (lines : List Line) → Any (λ m. (m.address ≡ Name name ∷ []) × (m.role ≡ Valued)) (named lines)
    → HasLine lines (Name name ∷ [])

-- and the lines after a `remove` are what the `remove` makes of the lines.
abbrev pub RemoveStands : Type 0
RemoveStands = (p : Address) (lines : List Line) → HasLine lines p → KeepsRules (named lines) → standing (remove_lines p lines) ≡ remove_standing p (standing lines)
