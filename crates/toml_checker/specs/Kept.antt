-- That nothing protected is lost.
use Rattle.std.specs.Prelude.{◌⊎◌, ℕ, List}
use Rattle.toml_tree.specs.Tree.{Doc}
use Rattle.toml_edits.specs.Edits.{Change}
use Rattle.toml_units.specs.Places.{LiesInside}
use Rattle.toml_units.specs.Units.{units}
use Rattle.toml_checker.specs.Pairs.{IsFirst}
use Rattle.toml_checker.specs.Protected.{IsProtected}

-- every protected unit is paired, or lies inside a paired unit that is protected
abbrev pub AllKept : List Change → Doc → List (ℕ × ℕ) → Type 0
AllKept cs d ps = (i : ℕ) → IsProtected cs (units d.lines) i
    → IsFirst ps i ⊎ ((j : ℕ) × LiesInside (units d.lines) j i × IsProtected cs (units d.lines) j × IsFirst ps j)
