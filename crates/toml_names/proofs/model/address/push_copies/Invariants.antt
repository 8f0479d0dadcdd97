use Rattle.toml_names.proofs.Common.{◌≡◌, ◌++◌, take}
use Rattle.toml_names.proofs.model.address.push_copies.Given as goal

abbrev pub invariant-loop-step : goal.invariant-loop-step
invariant-loop-step l = l.steps.items ≡ l.initial.steps.items ++ take l.step-index l.more
