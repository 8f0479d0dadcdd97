use Rattle.std.proofs.Common.{arith}
use Rattle.std.proofs.lemmas.Grind.{common_steps}
use Rattle.std.proofs.lemmas.List.{length-drop, length-take}
use Rattle.toml_delivery.proofs.Appended.{Appends-take}
use Rattle.toml_delivery.proofs.output.emit.Goals as goal

pub loop-written-preserved : goal.loop-written-preserved
loop-written-preserved g c = record {
  within = grind (arith, length-drop, length-take);
  accepted = Appends-take _ _ _ _ _ _ c.loop-written.invariant.accepted c.in-Ok.ensures.bytes;
  count = grind (arith, common_steps);
}
