use Rattle.std.proofs.Common.{arith}
use Rattle.std.proofs.lemmas.Grind.{common_steps}
use Rattle.toml_words.proofs.Adding.{one_more_local}
use Rattle.toml_words.proofs.arguments.args.Goals as goal

pub loop-row-preserved : goal.loop-row-preserved
loop-row-preserved c = (
  grind (arith, common_steps),
  rw c.in_ok-push.ensures.items (one_more_local c.loop-row.list.items c.arg.result c.loop-row.invariant.1 c.arg.ensures.local),
)
