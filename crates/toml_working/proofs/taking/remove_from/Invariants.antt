use Rattle.std.proofs.Common.{◌≡◌}
use Rattle.toml_layout.specs.KnownLines.{lines_known}
use Rattle.toml_working.specs.RemovingIn.{LeavesLines}
use Rattle.toml_working.proofs.taking.remove_from.Given as goal

abbrev pub invariant-loop-line : goal.invariant-loop-line
invariant-loop-line l =
    (l.parent.address ≡ l.fn.parent.address)
    × LeavesLines l.texts (lines_known l.known) l.at l.fn.parent.address l.fn.parent.stays l.parent.stays l.yielded l.lines.items
