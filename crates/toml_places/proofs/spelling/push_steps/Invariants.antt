use Rattle.std.proofs.Common.{◌≡◌, ◌++◌, drop, string_bytes}
use Rattle.std.specs.List.{flat_map}
use Rattle.toml_places.specs.Spelled.{step_text}
use Rattle.toml_places.proofs.spelling.push_steps.Given as goal

abbrev pub invariant-loop-step : goal.invariant-loop-step
invariant-loop-step l = string_bytes l.text ++ flat_map step_text (drop l.step-index l.steps) ≡ string_bytes l.initial.text ++ flat_map step_text l.steps
