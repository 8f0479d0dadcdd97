use Rattle.std.proofs.Common.{◌≡◌, ◌++◌, drop}
use Rattle.toml_edits.specs.Runs.{without}
use Rattle.toml_edits.proofs.shifts.without.Given as goal

abbrev pub invariant-loop-place : goal.invariant-loop-place
invariant-loop-place l = l.new.items ++ without l.index (drop l.place l.runs) ≡ without l.index l.runs
