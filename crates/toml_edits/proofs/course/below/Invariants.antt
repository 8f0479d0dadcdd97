use Rattle.std.proofs.Common.{◌≡◌, ◌++◌, take}
use Rattle.toml_edits.proofs.course.below.Given as goal

abbrev pub invariant-loop-step : goal.invariant-loop-step
invariant-loop-step l = l.steps ≡ take l.step-index l.place ++ l.left
