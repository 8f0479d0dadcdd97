use Rattle.toml_units.proofs.Bares.{units_of_bares}
use Rattle.toml_units.proofs.laws.bares.Goals as goal

pub returns : goal.returns
returns c = units_of_bares
