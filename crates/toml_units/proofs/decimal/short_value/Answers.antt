use Rattle.std.proofs.Common.{arith}
use Rattle.toml_units.proofs.DigitValues.{value_least}
use Rattle.toml_units.proofs.decimal.short_value.Goals as goal

pub overflow_mul-value : goal.overflow_mul-value
overflow_mul-value c = omega (arith, value_least c.args.digits.now c.loop-digit.digit-index c.loop-digit.value c.loop-digit-test.true c.loop-digit.invariant, c.requires)
