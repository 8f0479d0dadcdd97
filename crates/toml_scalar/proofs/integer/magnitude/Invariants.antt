use Rattle.std.proofs.Common.{◌≡◌, ◌<◌, ◌^◌, drop}
use Rattle.toml_scalar.specs.Integers.{number}
use Rattle.toml_scalar.proofs.Numbers.{number_behind}
use Rattle.toml_scalar.proofs.integer.magnitude.Given as goal

abbrev pub invariant-loop-byte : goal.invariant-loop-byte
invariant-loop-byte l = (number_behind l.base l.value (drop l.byte-index l.digits) ≡ number l.base l.digits) × (l.value < 2 ^ 64)
