use Rattle.std.proofs.Common.{Some, sym, ap, subst, ◌∙◌, arith}
use Rattle.toml_edits.proofs.Lists.{TakenSteps, steps_none, steps_more, steps_stop, steps_all}
use Rattle.toml_edits.proofs.list.steps_of.Goals as goal

pub loop-item-init : goal.loop-item-init
loop-item-init c = subst (TakenSteps c.args.items.now 0) (sym c.in_ok-steps.ensures.items) (steps_none c.args.items.now)

pub returns-in-None : goal.returns-in-None
returns-in-None c =
    steps_stop c.args.items.now c.loop-item.item-index c.item-item.result (omega (arith, c.loop-item-test.true)) (sym c.item-item.is) c.loop-item.steps.items c.loop-item.invariant (sym c.in-None.is ∙ c.in_ok-step.ensures)

pub loop-item-preserved : goal.loop-item-preserved
loop-item-preserved c =
    subst (TakenSteps c.args.items.now _) (sym c.in_ok-push-in-Some.ensures.items)
    (steps_more c.args.items.now c.loop-item.item-index c.item-item.result (omega (arith, c.loop-item-test.true)) (sym c.item-item.is) c.loop-item.steps.items c.loop-item.invariant c.in-Some.step (sym c.in-Some.is ∙ c.in_ok-step.ensures))

pub returns : goal.returns
returns c = ap Some c.of.ensures ∙ steps_all c.args.items.now c.loop-item.item-index c.loop-item.steps.items (omega (arith, c.loop-item-test.false)) c.loop-item.invariant
