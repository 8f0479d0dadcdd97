use Rattle.std.proofs.Common.{◌^◌, drop}
use Rattle.toml_names.specs.model.Indices.{IsLow}
use Rattle.toml_edits.proofs.walking.have_room.Given as goal

abbrev pub invariant-loop-step : goal.invariant-loop-step
invariant-loop-step l = IsLow (2 ^ 63) (drop l.step-index l.steps) → IsLow (2 ^ 63) l.steps
