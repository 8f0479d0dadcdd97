use Rattle.std.proofs.Common.{◌≡◌, ◌++◌, take}
use Rattle.toml_edits.proofs.walking.push_copies.Given as goal

abbrev pub invariant-loop-step : goal.invariant-loop-step
invariant-loop-step l = l.to.items ≡ l.initial.to.items ++ take l.step-index l.steps
