-- The line of a unit.
use Rattle.std.specs.Prelude.{◌≡◌, ◌⊎◌, ◌<◌, ℕ, List, None, Some, length, slice_get, IsSome}
use Rattle.toml_tree.specs.Spells.{Spells}
use Rattle.toml_tree.specs.Tree.{Doc, Line}
use Rattle.toml_units.specs.declared.unit.UnitKind.TheVariants as kinds
use Rattle.toml_units.specs.Blocks.{IsUnder, LiesIn}
use Rattle.toml_units.specs.Places.{LiesInside, line_of}
use Rattle.toml_units.specs.Units.{TextUnit, units}

-- What a unit of a line is to the line: at or below its address, and its comment at the very address. Only a line with a key and
-- a value has more units than its comment.
pub record IsOfLine (line u : TextUnit) : Type 0 where
  pub is_line : line.kind ≡ kinds.Line
  pub inner : ¬ (u.kind ≡ kinds.Line)
  pub tail : u.kind ≡ kinds.TailComment → (u.address ≡ line.address) × (u.base ≡ None)
  pub only_tail : line.base ≡ None → u.kind ≡ kinds.TailComment
  pub pair : u.kind ≡ kinds.Pair → IsSome u.base
  pub under : IsUnder line.address u

-- Law: each unit is a line, and its own, or is of its line.
abbrev pub UnitsAreOfLines : Type 0
UnitsAreOfLines = (lines : List Line) (i : ℕ) (u : TextUnit) → slice_get (units lines) i ≡ Some u
    → ((u.kind ≡ kinds.Line) × (line_of (units lines) i ≡ Some u)) ⊎ ((line : TextUnit) × (line_of (units lines) i ≡ Some line) × IsOfLine line u)

-- the line of the unit at the place; the unit lies in it, and has a byte
pub record LiesInLine (us : List TextUnit) (i : ℕ) (u : TextUnit) : Type 0 where
  pub place : ℕ
  pub line : TextUnit
  pub line_is : slice_get us place ≡ Some line
  pub is_line : line.kind ≡ kinds.Line
  pub its_line : line_of us i ≡ Some line
  pub inside : LiesInside us place i
  pub lies : LiesIn line u
  pub some : 0 < length u.piece.text

-- Law: each unit of a document is a line, or lies in its line and has a byte.
abbrev pub UnitsLieInLines : Type 0
UnitsLieInLines = (d : Doc) (text : List ℕ) → Spells d text → (i : ℕ) (u : TextUnit) → slice_get (units d.lines) i ≡ Some u → ¬ (u.kind ≡ kinds.Line) → LiesInLine (units d.lines) i u
