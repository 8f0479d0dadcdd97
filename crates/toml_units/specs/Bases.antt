-- Which units have a base.
use Rattle.std.specs.Prelude.{◌≡◌, ◌<◌, ◌⊎◌, ℕ, List, [], ◌∷◌, if◌then◌else◌, length, Some, None, IsSome}
use Rattle.toml_tree.specs.Pieces.{expr_piece}
use Rattle.toml_tree.specs.Spells.{EachIs}
use Rattle.toml_tree.specs.Tree.{Expr, BlankLine, KeyValLine, TableLine, ArrayTableLine, Line}
use Rattle.toml_names.specs.model.Addresses.{Address, below}
use Rattle.toml_names.specs.mentions.Keys.{Key}
use Rattle.toml_names.specs.mentions.Mentions.{Named}
use Rattle.toml_names.specs.reader.Names.{own_address}
use Rattle.toml_units.specs.declared.unit.UnitKind.TheVariants as kinds
use Rattle.toml_units.specs.Places.{is_line}
use Rattle.toml_units.specs.Units.{TextUnit, inside_line, units}

-- the unit's address is a table's, of so many steps, and goes on with a key
pub record GoesOn (n : ℕ) (u : TextUnit) : Type 0 where
  pub table : Address
  pub key : Key
  pub long : n ≡ length table
  pub address : u.address ≡ Some (below table key)
  pub some : 0 < length key

-- Only a line and a pair have a base; a pair has one. It is how many steps of the unit's address are the table's, and a key is the rest.
pub record IsBased (u : TextUnit) : Type 0 where
  pub only : IsSome u.base → (u.kind ≡ kinds.Line) ⊎ (u.kind ≡ kinds.Pair)
  pub pair : u.kind ≡ kinds.Pair → IsSome u.base
  pub front : (n : ℕ) → u.base ≡ Some n → GoesOn n u

-- Law: so it is with each unit.
abbrev pub UnitsAreBased : Type 0
UnitsAreBased = (lines : List Line) → EachIs IsBased (units lines)

-- the units that are lines
abbrev pub lines_of : List TextUnit → List TextUnit
lines_of [] = []
lines_of (u ∷ us) = if is_line u.kind then u ∷ lines_of us else lines_of us

-- a line with a key and a value has a base, and no other one has
abbrev pub HasBase : TextUnit → Expr → Type 0
HasBase u (BlankLine b) = u.base ≡ None
HasBase u (KeyValLine ws k b) = IsSome u.base
HasBase u (TableLine ws h b) = u.base ≡ None
HasBase u (ArrayTableLine ws h b) = u.base ≡ None

-- the units are these lines, one by one
abbrev pub AreLines : List TextUnit → List Line → Type 0
AreLines [] [] = Unit {0}
AreLines [] (l ∷ ls) = ⊥
AreLines (u ∷ us) [] = ⊥
AreLines (u ∷ us) (l ∷ ls) = (u.piece ≡ expr_piece l.expr) × HasBase u l.expr × AreLines us ls

-- Law: the units that are lines are the lines of the document.
abbrev pub LinesAreUnits : Type 0
LinesAreUnits = (lines : List Line) → AreLines (lines_of (units lines)) lines

-- Law: what lies on a line is no line.
abbrev pub InsideAreNoLines : Type 0
InsideAreNoLines = (earlier : List Named) (e : Expr) → EachIs (λ w. ¬ (w.kind ≡ kinds.Line)) (inside_line (own_address earlier e) e)
