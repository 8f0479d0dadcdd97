use Rattle.toml_checker.proofs.LowUnits.{units_are_low}
use Rattle.toml_checker.proofs.laws.low_units.Goals as goal

pub returns : goal.returns
returns c = units_are_low
