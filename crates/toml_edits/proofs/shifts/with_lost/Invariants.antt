use Rattle.std.proofs.Common.{◌≡◌, ◌++◌, drop}
use Rattle.toml_edits.specs.Runs.{with_lost}
use Rattle.toml_edits.proofs.shifts.with_lost.Given as goal

abbrev pub invariant-loop-place : goal.invariant-loop-place
invariant-loop-place l = l.new.items ++ with_lost l.index (drop l.place l.runs) ≡ with_lost l.index l.runs
