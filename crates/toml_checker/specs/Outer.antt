-- Protected units that lie in no other one.
use Rattle.std.specs.Prelude.{◌≡◌, ◌↔◌, ℕ, List, Bool, true, Some, length, map, slice_get}
use Rattle.toml_tree.specs.Spells.{Spells}
use Rattle.toml_tree.specs.Tree.{Doc}
use Rattle.toml_edits.specs.Edits.{Change}
use Rattle.toml_units.specs.declared.unit.Unit.{Unit as Made}
use Rattle.toml_units.specs.Places.{LiesInside}
use Rattle.toml_units.specs.Plain.{spanned}
use Rattle.toml_units.specs.Units.{TextUnit, units}
use Rattle.toml_units.specs.View.{all_units}
use Rattle.toml_checker.specs.Protected.{IsProtected}

-- the unit at the place is protected, and lies in no other protected unit
abbrev pub IsOuter : List Change → List TextUnit → ℕ → Type 0
IsOuter cs us i = IsProtected cs us i × ((j : ℕ) → LiesInside us j i → ¬ IsProtected cs us j)

-- the flags tell of each unit whether it is such a one
abbrev pub TellOuter : List Change → List TextUnit → List Bool → Type 0
TellOuter cs us fs = (length fs ≡ length us) × ((i : ℕ) → (slice_get fs i ≡ Some true) ↔ IsOuter cs us i)

-- they tell so of the units of a document, which are the code's
abbrev pub TellOuterOf : List Made → List Change → List Bool → Type 0
TellOuterOf us cs fs = (d : Doc) (text : List ℕ) → Spells d text → all_units us ≡ map spanned (units d.lines) → TellOuter cs (units d.lines) fs
