use Rattle.std.proofs.Common.{◌≡◌, map, take}
use Rattle.serde_json.specs.View.{view}
use Rattle.toml_commands.specs.Listing.{step_json}
use Rattle.toml_commands.proofs.list.address_json.Given as goal

abbrev pub invariant-loop-step : goal.invariant-loop-step
invariant-loop-step l = map view l.list.items ≡ map step_json (take l.step-index l.steps)
