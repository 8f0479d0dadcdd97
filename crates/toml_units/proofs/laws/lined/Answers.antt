use Rattle.toml_units.proofs.Lined.{lined_are_units, lined_have_newlines}
use Rattle.toml_units.proofs.laws.lined.Goals as goal

pub returns-clause-units : goal.returns-clause-units
returns-clause-units c = lined_are_units

pub returns-clause-newlines : goal.returns-clause-newlines
returns-clause-newlines c = lined_have_newlines
