-- Which units have others in them.
use Rattle.std.specs.Prelude.{◌≡◌, ◌⊎◌, ℕ, List, Some, slice_get}
use Rattle.toml_tree.specs.Spells.{Spells}
use Rattle.toml_tree.specs.Tree.{Doc}
use Rattle.toml_names.specs.mentions.Mentions.{named}
use Rattle.toml_names.specs.mentions.Rules.{KeepsRules}
use Rattle.toml_units.specs.declared.unit.UnitKind.TheVariants as kinds
use Rattle.toml_units.specs.Apart.{AreOfOneArray}
use Rattle.toml_units.specs.Places.{LiesInside}
use Rattle.toml_units.specs.Units.{TextUnit, units}

-- Law: nothing lies in a comment.
abbrev pub HoldersAreNoComments : Type 0
HoldersAreNoComments = (d : Doc) (text : List ℕ) → Spells d text → (i j : ℕ) (l : LiesInside (units d.lines) i j) → (l.outer.kind ≡ kinds.Line) ⊎ (l.outer.kind ≡ kinds.Element) ⊎ (l.outer.kind ≡ kinds.Pair)

-- Law: under the table rules the unit at a place that holds one comment of an array or inline table holds each.
abbrev pub HoldersHoldEach : Type 0
HoldersHoldEach = (d : Doc) (text : List ℕ) → Spells d text → KeepsRules (named d.lines) → (v i j : ℕ) (one other : TextUnit) → LiesInside (units d.lines) v i → slice_get (units d.lines) i ≡ Some one → slice_get (units d.lines) j ≡ Some other
    → AreOfOneArray one other → LiesInside (units d.lines) v j
