use Rattle.std.proofs.Common.{◌≡◌, ◌+◌, drop}
use Rattle.toml_scalar.specs.FloatRuns.{whole_len}
use Rattle.toml_scalar.proofs.float.whole_len.Given as goal

abbrev pub invariant-loop-i : goal.invariant-loop-i
invariant-loop-i l = l.i + whole_len (drop l.i l.bytes) ≡ whole_len l.bytes
