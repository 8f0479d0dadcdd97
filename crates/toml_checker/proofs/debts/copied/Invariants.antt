use Rattle.std.proofs.Common.{◌≡◌, take}
use Rattle.toml_checker.proofs.debts.copied.Given as goal

abbrev pub invariant-loop-step : goal.invariant-loop-step
invariant-loop-step l = l.all.items ≡ take l.step-index l.steps
