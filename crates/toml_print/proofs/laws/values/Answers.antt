use Rattle.toml_print.proofs.Proved.{one_value_at}
use Rattle.toml_print.proofs.laws.values.Goals as goal

pub returns : goal.returns
returns c = one_value_at
