use Rattle.std.proofs.Common.{◌≡◌, true, take}
use Rattle.std.specs.List.{list_all}
use Rattle.toml_layout.specs.Holders.{is_name}
use Rattle.toml_layout.proofs.members.are_names.Given as goal

abbrev pub invariant-loop-step : goal.invariant-loop-step
invariant-loop-step l = list_all is_name (take l.step-index l.steps) ≡ true
