use Rattle.std.proofs.Common.{◌≡◌, List, Some}
use Rattle.std.specs.Prelude.{slice_get}
use Rattle.toml_tree.specs.Tree as tree
use Rattle.toml_working.specs.declared.lines.Slot.{Slot}
use Rattle.toml_working.specs.Headers.{StandInTurn}
use Rattle.toml_working.specs.NextHeaders.{Walked}
use Rattle.toml_working.specs.Placing.{lines_from}
use Rattle.toml_working.specs.Seeing.{read_by}
use Rattle.toml_working.specs.Standing.{Standing}
use Rattle.toml_working.proofs.lines.Slot.walked.Given as goal

abbrev pub invariant-loop-index : goal.invariant-loop-index
invariant-loop-index l = (lines : List tree.Line) (slots : List Slot) → slice_get slots l.slot ≡ Some l.self → (all : List Standing)
    → let read = read_by l.units lines in StandInTurn l.element all → Walked l.element read slots all (lines_from read slots l.slot 0) l.fn.walk
    → Walked l.element read slots all (lines_from read slots l.slot l.index) l.walk
