use Rattle.std.proofs.Common.{arith}
use Rattle.toml_working.proofs.Renamed.{one_step_more}
use Rattle.toml_working.proofs.steps.names_in.Goals as goal

pub loop-step-preserved : goal.loop-step-preserved
loop-step-preserved c = (
  one_step_more c.args.steps.now c.loop-step.step-index c.loop-step.count c.names_of-count.result c.step-item.result c.loop-step-test.true c.step-item.is
      c.names_of-count.ensures.counts c.loop-step.invariant.0,
  omega (arith, c.loop-step.invariant.1, c.names_of-count.ensures.most),
)
