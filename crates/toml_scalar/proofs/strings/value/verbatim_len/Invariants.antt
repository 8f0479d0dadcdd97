use Rattle.std.proofs.Common.{◌≡◌, ◌+◌, drop}
use Rattle.toml_text.specs.Runs.{run_len}
use Rattle.toml_scalar.specs.StringValues.{is_verbatim}
use Rattle.toml_scalar.proofs.strings.value.verbatim_len.Given as goal

abbrev pub invariant-loop-i : goal.invariant-loop-i
invariant-loop-i l = l.i + run_len is_verbatim (drop l.i l.bytes) ≡ run_len is_verbatim l.bytes
