use Rattle.std.proofs.Common.{sym, ◌∙◌, arith}
use Rattle.toml_edits.proofs.Ways.{next_step, one_more, step_differs}
use Rattle.toml_edits.proofs.course.below.Goals as goal

pub returns-then-not-is_same : goal.returns-then-not-is_same
returns-then-not-is_same c = λ rest is.
    step_differs c.step-item.result c.in_ok-first.first.now (sym c.is_same.ensures ∙ c.if-not-is_same.true)
    (next_step c.args.place.now c.args.steps.now c.loop-step.left.now c.in_ok-first.rest.now c.loop-step.step-index c.step-item.result c.in_ok-first.first.now (omega arith) c.step-item.is c.loop-step.invariant c.in_ok-first.ensures.cases.0 rest is)

pub loop-step-preserved : goal.loop-step-preserved
loop-step-preserved c =
    one_more c.args.place.now c.args.steps.now c.loop-step.left.now c.in_ok-first.rest.now c.loop-step.step-index c.step-item.result c.in_ok-first.first.now (omega arith) c.step-item.is c.loop-step.invariant c.in_ok-first.ensures.cases.0 (sym c.is_same.ensures ∙ c.if-not-is_same.false)
