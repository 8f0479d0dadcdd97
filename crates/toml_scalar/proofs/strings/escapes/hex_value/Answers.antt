use Rattle.std.proofs.Common.{arith}
use Rattle.toml_scalar.proofs.StringEscapes.{power_seven}
use Rattle.toml_scalar.proofs.strings.escapes.hex_value.Goals as goal

pub overflow_mul-value : goal.overflow_mul-value
overflow_mul-value c = omega (arith, power_seven c.loop-digit.digit-index (omega arith))

pub overflow_add-value : goal.overflow_add-value
overflow_add-value c = omega (arith, power_seven c.loop-digit.digit-index (omega arith), c.in_ok-value.ensures.value)
