use Rattle.std.proofs.Common.{◌≡◌, ◌≤◌, ◌-◌, length, take}
use Rattle.std.specs.Io.KnownBytes.{Appends}
use Rattle.toml_delivery.proofs.output.emit.Given as goal

abbrev pub invariant-loop-written : goal.invariant-loop-written
invariant-loop-written g l = record {
  within : l.written ≤ length l.bytes;
  accepted : Appends (g.W.Write.contents l.initial.writer.device)
      (g.W.Write.contents l.writer.device) (take l.written l.bytes);
  count : l.writer.failures ≡ l.initial.writer.failures;
}

abbrev pub decreases-loop-written : goal.decreases-loop-written
decreases-loop-written g l = length l.bytes - l.written
