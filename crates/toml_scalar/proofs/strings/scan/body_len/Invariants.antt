use Rattle.std.proofs.Common.{◌≡◌, ◌≤◌, ◌-◌, drop, length}
use Rattle.toml_scalar.specs.StringRuns.{body_len}
use Rattle.toml_scalar.specs.StringScan.{longer_by}
use Rattle.toml_scalar.proofs.strings.scan.body_len.Given as goal

abbrev pub invariant-loop-len : goal.invariant-loop-len
invariant-loop-len l = (l.at ≤ length l.bytes) × (body_len l.kind l.bytes ≡ longer_by l.at (body_len l.kind (drop l.at l.bytes)))

abbrev pub decreases-loop-len : goal.decreases-loop-len
decreases-loop-len l = length l.bytes - l.at
