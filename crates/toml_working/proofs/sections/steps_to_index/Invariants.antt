use Rattle.std.proofs.Common.{◌≡◌, take}
use Rattle.toml_working.specs.Headers.{innermost}
use Rattle.toml_working.specs.PuttingHeaders.{up_to}
use Rattle.toml_working.proofs.sections.steps_to_index.Given as goal

abbrev pub invariant-loop-place : goal.invariant-loop-place
invariant-loop-place l = innermost (take l.place l.steps) ≡ up_to l.count l.steps
