use Rattle.std.proofs.Common.{List}
use Rattle.toml_tree.specs.Tree as tree
use Rattle.toml_working.specs.Placing.{lines_from}
use Rattle.toml_working.specs.Seeing.{read_by}
use Rattle.toml_working.specs.TableEnds.{PassedInTable}
use Rattle.toml_working.proofs.working.Tree.last_in_table.Given as goal

abbrev pub invariant-loop-slot : goal.invariant-loop-slot
invariant-loop-slot l = (lines : List tree.Line) → let read = read_by l.before.units.now lines in
    PassedInTable l.address read l.self.slots.items (lines_from read l.self.slots.items l.fn.from.slot l.fn.from.index) (lines_from read l.self.slots.items l.slot l.skip) l.last
