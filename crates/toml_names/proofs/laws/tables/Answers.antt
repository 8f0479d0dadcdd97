use Rattle.toml_names.proofs.Proved.{table-has, table-here, table-member, table-index}
use Rattle.toml_names.proofs.laws.tables.Goals as goal

pub returns : goal.returns
returns c = record { here = table-here; name = table-member; index = table-index; member = table-has }
