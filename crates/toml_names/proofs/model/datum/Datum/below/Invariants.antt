use Rattle.toml_names.proofs.Common.{◌≡◌, ◌++◌, drop, Address, kind_at}
use Rattle.toml_names.proofs.model.datum.Datum.below.Given as goal

abbrev pub invariant-loop-step : goal.invariant-loop-step
invariant-loop-step l = (rest : Address) → kind_at l.here (drop l.step-index l.steps ++ rest) ≡ kind_at l.fn.self (l.steps ++ rest)
