use Rattle.std.proofs.Common.{◌≡◌, ◌≤◌, take}
use Rattle.toml_working.specs.RenameStanding.{names_in}
use Rattle.toml_working.proofs.steps.names_in.Given as goal

abbrev pub invariant-loop-step : goal.invariant-loop-step
invariant-loop-step l = (l.count ≡ names_in (take l.step-index l.steps)) × (l.count ≤ l.step-index)
