use Rattle.std.proofs.Common.{◌≡◌, ◌+◌, drop}
use Rattle.toml_text.specs.Runs.{run_len, is_byte}
use Rattle.toml_scalar.proofs.strings.runs.mark_len.Given as goal

abbrev pub invariant-loop-i : goal.invariant-loop-i
invariant-loop-i l = l.i + run_len (is_byte l.mark) (drop l.i l.bytes) ≡ run_len (is_byte l.mark) l.bytes
