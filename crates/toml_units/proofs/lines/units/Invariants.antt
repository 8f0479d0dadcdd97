use Rattle.std.proofs.Common.{map}
use Rattle.toml_tree.specs.Lines.{line}
use Rattle.toml_units.specs.View.{all_units}
use Rattle.toml_units.proofs.AllLines.{IsTaken}
use Rattle.toml_units.proofs.lines.units.Given as goal

abbrev pub invariant-loop-number : goal.invariant-loop-number
invariant-loop-number l = IsTaken (map line l.line-items) l.number (all_units l.units.items)
