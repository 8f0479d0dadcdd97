use Rattle.std.proofs.Common.{◌≡◌, false, take}
use Rattle.std.specs.List.{list_any}
use Rattle.toml_working.specs.declared.lines.Line.{Line}
use Rattle.toml_working.specs.Standing.{lies_below}
use Rattle.toml_working.proofs.lines.is_any_below.Given as goal

abbrev pub invariant-loop-line : goal.invariant-loop-line
invariant-loop-line l = list_any (λ (x : Line). lies_below l.at x.address) (take l.line-index l.lines) ≡ false
