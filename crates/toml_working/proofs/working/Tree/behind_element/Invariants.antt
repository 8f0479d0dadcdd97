use Rattle.std.proofs.Common.{List}
use Rattle.toml_tree.specs.Tree as tree
use Rattle.toml_working.specs.Headers.{StandInTurn}
use Rattle.toml_working.specs.NextHeaders.{Walked}
use Rattle.toml_working.specs.Placing.{lines_from}
use Rattle.toml_working.specs.Seeing.{read_by}
use Rattle.toml_working.specs.Standing.{slots_standing}
use Rattle.toml_working.proofs.working.Tree.behind_element.Given as goal

abbrev pub invariant-loop-slot : goal.invariant-loop-slot
invariant-loop-slot l = (lines : List tree.Line) → let read = read_by l.before.units.now lines in
    let all = slots_standing read l.self.slots.items in
    StandInTurn l.element all → Walked l.element read l.self.slots.items all (lines_from read l.self.slots.items l.slot 0) l.walk
