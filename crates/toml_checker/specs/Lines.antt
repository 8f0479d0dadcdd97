-- That no line is added unasked.
use Rattle.std.specs.Prelude.{◌≡◌, ◌⊎◌, ℕ, List, [], Some, slice_get}
use Rattle.toml_tree.specs.Tree.{Doc}
use Rattle.toml_edits.specs.Edits.{Change}
use Rattle.toml_units.specs.declared.unit.UnitKind.TheVariants as kinds
use Rattle.toml_units.specs.Units.{TextUnit, units}
use Rattle.toml_checker.specs.CarriedTo.{At}
use Rattle.toml_checker.specs.Owed.{IsOwed}
use Rattle.toml_checker.specs.Pairs.{IsSecond, IsLastLine}

-- a last line of no bytes, behind an edit
abbrev pub IsEmptyEnd : List Change → Doc → ℕ → TextUnit → Type 0
IsEmptyEnd cs e k w = IsLastLine e k × (w.piece.text ≡ []) × ¬ (cs ≡ [])

-- every line of the new text is paired, or its address is owed, or it is a last line of no bytes and there is an edit
abbrev pub NoLinesAdded : List Change → Doc → List (ℕ × ℕ) → Type 0
NoLinesAdded cs e ps = (k : ℕ) (w : TextUnit) → slice_get (units e.lines) k ≡ Some w → w.kind ≡ kinds.Line
    → IsSecond ps k ⊎ At w.address (IsOwed cs) ⊎ IsEmptyEnd cs e k w
