use Rattle.toml_names.proofs.Proved.{one_data, lines_are_closed, values_are_closed}
use Rattle.toml_names.proofs.laws.closed_data.Goals as goal

pub returns : goal.returns
returns c = record { one = one_data; lines = lines_are_closed; values = values_are_closed }
