-- The mark and units.
use Rattle.std.specs.Prelude.{◌≤◌, ℕ, List, length}
use Rattle.toml_tree.specs.Spells.{EachIs, Spells, mark_of}
use Rattle.toml_tree.specs.Tree.{Doc}
use Rattle.toml_units.specs.Units.{units}

-- Law: the mark is in no unit.
abbrev pub UnitsAreBehindTheMark : Type 0
UnitsAreBehindTheMark = (d : Doc) (text : List ℕ) → Spells d text → EachIs (λ u. length (mark_of text) ≤ u.piece.start) (units d.lines)
