use Rattle.std.proofs.Common.{◌≡◌, true, drop}
use Rattle.toml_layout.specs.Beginnings.{begins}
use Rattle.toml_working.proofs.steps.begins.Given as goal

abbrev pub invariant-loop-place : goal.invariant-loop-place
invariant-loop-place l = begins (drop l.place l.above) (drop l.place l.steps) ≡ true
