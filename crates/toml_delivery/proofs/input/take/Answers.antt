use Rattle.std.proofs.Common.{◌++◌, take, arith}
use Rattle.std.proofs.KnownBytes.{Consumes-trans}
use Rattle.std.proofs.lemmas.Grind.{common_steps}
use Rattle.toml_delivery.proofs.input.take.Goals as goal

pub returns-then-is_err-clause-lost : goal.returns-then-is_err-clause-lost
returns-then-is_err-clause-lost g c = record {
  bytes = c.loop-chunk.bytes.items ++ take c.in-Ok.count c.read.new.room;
  read = Consumes-trans _ _ _ _ _ c.loop-chunk.invariant.read c.in-Ok.ensures.bytes.0;
  within = grind (arith, common_steps);
}
