use Rattle.std.proofs.Common.{◌≡◌, ◌+◌, ◌-◌, ◌≤◌, drop, length}
use Rattle.toml_text.specs.Bytes.{is_unmarked}
use Rattle.toml_text.specs.Runs.{run_len}
use Rattle.toml_text.proofs.unmarked.unmarked_len.Given as goal

abbrev pub invariant-loop-at : goal.invariant-loop-at
invariant-loop-at l =
    (l.at + run_len (is_unmarked l.mark l.other) (drop l.at l.bytes) ≡ run_len (is_unmarked l.mark l.other) l.bytes) × (l.at ≤ length l.bytes)

abbrev pub decreases-loop-at : goal.decreases-loop-at
decreases-loop-at l = length l.bytes - l.at
