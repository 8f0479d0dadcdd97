use Rattle.std.proofs.Common.{arith}
use Rattle.toml_units.proofs.Decimals.{few_digits}
use Rattle.toml_units.proofs.decimal.number_of.Goals as goal

pub short_value-requires : goal.short_value-requires
short_value-requires c = few_digits c.args.digits.now c.requires (omega arith)
