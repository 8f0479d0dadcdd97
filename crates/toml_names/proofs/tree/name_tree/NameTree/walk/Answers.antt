use Rattle.toml_names.proofs.Common.{sym, subst, arith, nowhere, IsWalked}
use Rattle.toml_names.proofs.lemmas.tree.OnWay.{way_begins, way_within, way_ends, way_goes_on, way_is_lost}
use Rattle.toml_names.proofs.tree.name_tree.NameTree.walk.Goals as goal

pub loop-step-init : goal.loop-step-init
loop-step-init c = way_begins c.args.self.now.nodes.items c.requires.tree c.args.steps.now

pub value_line-value-requires : goal.value_line-value-requires
value_line-value-requires c =
    let within = way_within c.args.self.now.nodes.items c.requires.tree c.args.steps.now c.loop-step.step-index c.loop-step.here c.loop-step.value c.loop-step.invariant in
    record { within = omega (arith, within, c.args.self.now.nodes.ok) }

pub below-requires-clause-within : goal.below-requires-clause-within
below-requires-clause-within c =
    let within = way_within c.args.self.now.nodes.items c.requires.tree c.args.steps.now c.loop-step.step-index c.loop-step.here c.loop-step.value c.loop-step.invariant in
    omega (arith, within, c.args.self.now.nodes.ok)

pub returns-in_err-here : goal.returns-in_err-here
returns-in_err-here c =
    subst (IsWalked c.args.self.now.nodes.items c.args.steps.now) (sym c.from_residual.ensures)
    (way_is_lost c.args.self.now.nodes.items c.requires.tree c.args.steps.now c.loop-step.step-index c.loop-step.here c.loop-step.value c.loop-step.invariant c.step-item.result c.loop-step-test.true c.step-item.is c.in_err-here.ensures)

pub loop-step-preserved : goal.loop-step-preserved
loop-step-preserved c =
    way_goes_on c.args.self.now.nodes.items c.requires.tree c.args.steps.now c.loop-step.step-index c.loop-step.here c.loop-step.value c.loop-step.invariant
    c.step-item.result c.loop-step-test.true c.step-item.is c.in_ok-here.here c.value_line-value.result c.in_ok-here.ensures (c.value_line-value.ensures nowhere)

pub returns : goal.returns
returns c = way_ends c.args.self.now.nodes.items c.requires.tree c.args.steps.now c.loop-step.step-index c.loop-step.here c.loop-step.value c.loop-step.invariant c.loop-step-test.false
