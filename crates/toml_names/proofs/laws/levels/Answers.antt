use Rattle.toml_names.proofs.Proved.{kind_at-scalar, kind_at-array, kind_at-table, datum_is, has_kind}
use Rattle.toml_names.proofs.laws.levels.Goals as goal

pub returns : goal.returns
returns c = record { scalars = kind_at-scalar; arrays = kind_at-array; tables = kind_at-table; three = datum_is; root = has_kind }
