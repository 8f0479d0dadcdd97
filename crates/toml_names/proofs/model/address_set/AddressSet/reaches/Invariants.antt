use Rattle.toml_names.proofs.Common.{◌≡◌, drop}
use Rattle.toml_names.specs.model.AddressSets.{reaches}
use Rattle.toml_names.proofs.model.address_set.AddressSet.reaches.Given as goal

abbrev pub invariant-loop-step : goal.invariant-loop-step
invariant-loop-step l = reaches l.set (drop l.step-index l.at) ≡ reaches l.fn.self l.at
