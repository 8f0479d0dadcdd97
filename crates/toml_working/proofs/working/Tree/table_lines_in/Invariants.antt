use Rattle.std.proofs.Common.{List}
use Rattle.toml_tree.specs.Tree as tree
use Rattle.toml_working.specs.Placing.{lines_from}
use Rattle.toml_working.specs.Seeing.{read_by}
use Rattle.toml_working.specs.TableEnds.{PassedInTable}
use Rattle.toml_working.specs.Standing.{Standing}
use Rattle.toml_working.proofs.working.Tree.table_lines_in.Given as goal

abbrev pub invariant-loop-index : goal.invariant-loop-index
invariant-loop-index l = (lines : List tree.Line) (all : List Standing) → let read = read_by l.before.units.now lines in
    PassedInTable l.address read l.self.slots.items all (lines_from read l.self.slots.items l.slot l.skip) l.fn.last
    → PassedInTable l.address read l.self.slots.items all (lines_from read l.self.slots.items l.slot l.index) l.found
