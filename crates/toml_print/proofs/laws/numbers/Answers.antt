use Rattle.toml_print.proofs.Proved.{float_is_number}
use Rattle.toml_print.proofs.laws.numbers.Goals as goal

pub returns : goal.returns
returns c = float_is_number
