use Rattle.toml_names.proofs.Proved.{array-within, array-here, array-item, array-name}
use Rattle.toml_names.proofs.laws.arrays.Goals as goal

pub returns : goal.returns
returns c = record { here = array-here; index = array-item; name = array-name; within = array-within }
