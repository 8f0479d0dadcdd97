use Rattle.std.proofs.Common.{◌≡◌, take}
use Rattle.toml_working.specs.Starting.{NoneIsGone}
use Rattle.toml_working.proofs.elements.Elements.uncut.Given as goal

abbrev pub invariant-loop-step : goal.invariant-loop-step
invariant-loop-step l = NoneIsGone l.self → l.steps.items ≡ take l.step-index l.step-items
