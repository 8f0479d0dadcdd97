use Rattle.toml_names.proofs.Proved.{indices_are_low, value_indices_are_low}
use Rattle.toml_names.proofs.laws.indices.Goals as goal

pub returns : goal.returns
returns c = record { lines = indices_are_low; values = value_indices_are_low }
