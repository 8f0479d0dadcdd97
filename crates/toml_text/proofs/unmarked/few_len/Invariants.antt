use Rattle.std.proofs.Common.{◌≡◌, ◌+◌, drop}
use Rattle.toml_text.specs.Bytes.{is_unmarked}
use Rattle.toml_text.specs.Runs.{run_len}
use Rattle.toml_text.proofs.unmarked.few_len.Given as goal

abbrev pub invariant-loop-i : goal.invariant-loop-i
invariant-loop-i l = l.i + run_len (is_unmarked l.mark l.other) (drop l.i l.bytes) ≡ run_len (is_unmarked l.mark l.other) l.bytes
