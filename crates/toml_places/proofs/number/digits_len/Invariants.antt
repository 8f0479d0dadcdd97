use Rattle.std.proofs.Common.{◌≡◌, ◌+◌, drop}
use Rattle.toml_text.specs.Bytes.{is_digit}
use Rattle.toml_text.specs.Runs.{run_len}
use Rattle.toml_places.proofs.number.digits_len.Given as goal

abbrev pub invariant-loop-i : goal.invariant-loop-i
invariant-loop-i l = l.i + run_len is_digit (drop l.i l.bytes) ≡ run_len is_digit l.bytes
