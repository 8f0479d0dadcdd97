-- Which of two units comes first.
use Rattle.std.specs.Prelude.{◌≡◌, ℕ, List}
use Rattle.toml_tree.specs.Spells.{Spells}
use Rattle.toml_tree.specs.Tree.{Doc}
use Rattle.toml_units.specs.Apart.{EachTwo}
use Rattle.toml_units.specs.Blocks.{LiesIn}
use Rattle.toml_units.specs.Units.{TextUnit, units}

-- where the two begin together, the second one lies in the first
abbrev pub IsOuter : TextUnit → TextUnit → Type 0
IsOuter u w = u.piece.start ≡ w.piece.start → LiesIn u w

-- Law: of two units that begin together the outer one comes first.
abbrev pub OuterComesFirst : Type 0
OuterComesFirst = (d : Doc) (text : List ℕ) → Spells d text → EachTwo IsOuter (units d.lines)
