use Rattle.std.proofs.Common.{◌≡◌, map, string_bytes, take}
use Rattle.toml_working.specs.Spellings.{step_spelled}
use Rattle.toml_editor.proofs.spelled.spellings.Given as goal

abbrev pub invariant-loop-step : goal.invariant-loop-step
invariant-loop-step l = map string_bytes l.list.items ≡ map step_spelled (take l.step-index l.steps)
