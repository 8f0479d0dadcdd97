use Rattle.std.proofs.Common.{◌≡◌, drop}
use Rattle.toml_edits.specs.Sides.{side}
use Rattle.toml_edits.proofs.side.side_of.Given as goal

abbrev pub invariant-loop-step : goal.invariant-loop-step
invariant-loop-step l = side (drop l.step-index l.place) l.left ≡ side l.place l.steps
