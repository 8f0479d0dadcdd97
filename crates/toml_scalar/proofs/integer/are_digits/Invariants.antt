use Rattle.std.proofs.Common.{◌≡◌, drop}
use Rattle.toml_scalar.specs.IntegerRuns.{is_digit_of, digits_after, are_digits}
use Rattle.toml_scalar.proofs.integer.are_digits.Given as goal

abbrev pub invariant-loop-byte : goal.invariant-loop-byte
invariant-loop-byte l = digits_after (is_digit_of l.base) l.was_digit (drop l.byte-index l.bytes) ≡ are_digits l.base l.bytes
