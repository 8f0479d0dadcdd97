use Rattle.std.proofs.Common.{◌≡◌, []}
use Rattle.toml_working.specs.Placing.{lines_from}
use Rattle.toml_working.specs.Standing.{Read}
use Rattle.toml_working.proofs.working.Tree.last_line.Given as goal

abbrev pub invariant-loop-slot : goal.invariant-loop-slot
invariant-loop-slot l = (read : Read) → lines_from read l.self.slots.items l.slot 0 ≡ []
