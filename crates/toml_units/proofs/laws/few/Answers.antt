use Rattle.toml_units.proofs.UnitsFew.{units_are_few}
use Rattle.toml_units.proofs.laws.few.Goals as goal

pub returns : goal.returns
returns c = units_are_few
