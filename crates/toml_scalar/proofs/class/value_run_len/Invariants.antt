use Rattle.std.proofs.Common.{◌≡◌, ◌+◌, drop}
use Rattle.toml_scalar.specs.Runs.{is_value_byte}
use Rattle.toml_text.specs.Runs.{run_len}
use Rattle.toml_scalar.proofs.class.value_run_len.Given as goal

abbrev pub invariant-loop-i : goal.invariant-loop-i
invariant-loop-i l = l.i + run_len is_value_byte (drop l.i l.bytes) ≡ run_len is_value_byte l.bytes
