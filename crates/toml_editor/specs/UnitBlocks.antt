-- Units of lines that are put in and taken out: one block more, or one less, between two lines. The newline of a line is in no unit. All other units are as they were, with their pieces: a piece of edited lines has the place that it had before.
use Rattle.std.specs.Prelude.{◌≡◌, ◌⊎◌, ◌<◌, ℕ, List, [], ◌∷◌, ◌++◌, Option, Some, None, length}
use Rattle.std.specs.List.{join_by}
use Rattle.toml_scalar.specs.Spelling.{spelled}
use Rattle.toml_tree.specs.Bare.{fresh}
use Rattle.toml_tree.specs.Spells.{joined, value_parts, AreLines}
use Rattle.toml_tree.specs.Tree.{Piece, Value, Line}
use Rattle.toml_names.specs.mentions.Keys.{Key}
use Rattle.toml_names.specs.mentions.Mentions.{named}
use Rattle.toml_names.specs.mentions.Rules.{KeepsRules}
use Rattle.toml_names.specs.model.Addresses.{Address, below, child}
use Rattle.toml_units.specs.declared.unit.UnitKind.TheVariants as kinds
use Rattle.toml_units.specs.Units.{TextUnit, inside, comment_units, units}
use Rattle.toml_layout.specs.OpenOutlines.{closing_brackets, opening_brackets}
use Rattle.toml_layout.specs.declared.layout.Layout.{Layout}
use Rattle.toml_layout.specs.declared.layout.Layout.TheVariants as layouts
use Rattle.toml_layout.specs.declared.tree.Brackets.{Brackets}
use Rattle.toml_layout.specs.declared.tree.Brackets.TheVariants.{One}
use Rattle.toml_working.specs.Headers.{names_of}
use Rattle.toml_working.specs.InsertingInTables.{insert_in}
use Rattle.toml_working.specs.Manners.{Manner}
use Rattle.toml_working.specs.Removing.{empty_table, remove_lines}
use Rattle.toml_layout.specs.Spacings.{Spacing, plain_spacing}
use Rattle.toml_editor.specs.RemoveLaws.{LeavesTable, TakesTable}
use Rattle.toml_layout.specs.Holders.{parent_of}
use Rattle.toml_working.specs.Premises.{HasImplied, HasTable}

-- a keyval line: itself, what lies in its value, and its comment; to the table in which it stands lead so many steps
abbrev pub pair_line_units : Piece → Address → ℕ → Value → Option Piece → List TextUnit
pair_line_units piece at base v comment =
    record { kind = kinds.Line; piece = piece; address = Some at; base = Some base } ∷ (inside at v ++ comment_units kinds.TailComment (Some at) comment)

-- a header line without a comment: the line alone
abbrev pub header_line_units : Piece → Address → List TextUnit
header_line_units piece at = record { kind = kinds.Line; piece = piece; address = Some at; base = None } ∷ []

-- a line of no bytes
abbrev pub line_of_nothing : TextUnit
line_of_nothing = record { kind = kinds.Line; piece = fresh []; address = None; base = None }

-- the units go on with a line, or end
abbrev pub BeginWithLine : List TextUnit → Type 0
BeginWithLine [] = Unit {0}
BeginWithLine (u ∷ us) = u.kind ≡ kinds.Line

-- the second list is the first with the block put in before a line, or at the end
pub record IsBlockPut (old block new : List TextUnit) : Type 0 where
  pub front : List TextUnit
  pub back : List TextUnit
  pub before : old ≡ front ++ back
  pub after : new ≡ front ++ (block ++ back)
  pub next : BeginWithLine back

-- what is left of a line that is taken out: a line of no bytes, if it was the last one
abbrev pub left_of : List TextUnit → List TextUnit
left_of [] = line_of_nothing ∷ []
left_of (u ∷ us) = []

-- the second list is the first with the block taken out before a line, or at the end
pub record IsBlockTaken (old block new : List TextUnit) : Type 0 where
  pub front : List TextUnit
  pub back : List TextUnit
  pub before : old ≡ front ++ (block ++ back)
  pub after : new ≡ front ++ (left_of back ++ back)
  pub next : BeginWithLine back

-- the bytes of a new line with this whitespace, but for its newline: the names of its key, spelled, with `.` between them
abbrev pub pair_text : Spacing → Key → Value → List ℕ
pair_text s key v = s.ws ++ (join_by spelled (0x2E ∷ []) key ++ (s.before_equals ++ 0x3D ∷ (s.after_equals ++ joined (value_parts v))))

-- the bytes of a new header line with this whitespace, but for its newline: the names, spelled, with `.` between them, in the brackets
abbrev pub header_text : Brackets → List ℕ → Address → List ℕ
header_text brackets ws p = ws ++ (opening_brackets brackets ++ (join_by spelled (0x2E ∷ []) (names_of p) ++ closing_brackets brackets))

-- units of before, with those of a new header line at the address, which begins with this text; or also one of a last line of no bytes behind
-- it, as where a blank line is written
abbrev pub IsHeaderUnitPut : Brackets → Address → List ℕ → List TextUnit → List TextUnit → Type 0
IsHeaderUnitPut brackets p ws old new =
    let line = header_line_units (fresh (header_text brackets ws p)) p in
    IsBlockPut old line new ⊎ IsBlockPut old (line ++ line_of_nothing ∷ []) new

-- The units of lines, with those of the new line of an `insert`, by a key that has the names behind the address of a section; or, where longer
-- headers alone imply the table, those of its new header line, and of the line behind it. In layout `Plain` the whitespace is that of ` = `.
pub data AreUnitsInserted (q : Address) (name : List ℕ) (v : Value) (layout : Layout) (lines : List Line) (new : List TextUnit) : Type 0 where
  OneLine : (section : Address) → (key : Key) → ¬ (key ≡ []) → child q name ≡ below section key → (s : Spacing) → (layout ≡ layouts.Plain → s ≡ plain_spacing)
      → IsBlockPut (units lines) (pair_line_units (fresh (pair_text s key v)) (child q name) (length section) v None) new
      → AreUnitsInserted q name v layout lines new
  Both : ¬ (q ≡ []) → HasImplied lines q → (ws : List ℕ) → (s : Spacing) → (layout ≡ layouts.Plain → (ws ≡ []) × (s ≡ plain_spacing))
      → IsBlockPut (units lines)
      (header_line_units (fresh (header_text One ws q)) q ++ pair_line_units (fresh (pair_text s (name ∷ []) v)) (child q name) (length q) v None) new
      → AreUnitsInserted q name v layout lines new

-- Law: these are the units that come with it.
abbrev pub InsertUnits : Type 0
InsertUnits = (q : Address) (name : List ℕ) (v : Value) (manner : Manner) (lines : List Line) → HasTable lines q
    → AreUnitsInserted q name v manner.layout lines (units (insert_in q name v manner lines))

-- Laws: the units of the new lines are those of the old ones without those of the line, where the table right above the value stays;
abbrev pub RemoveUnits : Type 0
RemoveUnits = (p : Address) (lines : List Line) → AreLines lines → LeavesTable lines p → KeepsRules (named lines)
    → (piece : Piece) × (base : ℕ) × (v : Value) × (comment : Option Piece) × (base < length p)
    × IsBlockTaken (units lines) (pair_line_units piece p base v comment) (units (remove_lines p lines))

-- else with one line in their place, of the table, which is empty.
abbrev pub EmptyUnits : Type 0
EmptyUnits = (p : Address) (lines : List Line) → TakesTable lines p → KeepsRules (named lines)
    → (piece next : Piece) × (base : ℕ) × (v : Value) × (comment : Option Piece) × (front back : List TextUnit)
    × (units lines ≡ front ++ (pair_line_units piece p base v comment ++ back))
    × (units (remove_lines p lines) ≡ front ++ (pair_line_units next (parent_of p) base empty_table None ++ back))
