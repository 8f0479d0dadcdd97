use Rattle.toml_edits.proofs.Lists.{TakenSteps}
use Rattle.toml_edits.proofs.list.steps_of.Given as goal

abbrev pub invariant-loop-item : goal.invariant-loop-item
invariant-loop-item l = TakenSteps l.items l.item-index l.steps.items
