use Rattle.toml_names.proofs.Proved.{scalars_alike, arrays_alike, tables_same}
use Rattle.toml_names.proofs.laws.same_data.Goals as goal

pub returns : goal.returns
returns c = record { scalars = scalars_alike; arrays = arrays_alike; tables = tables_same }
