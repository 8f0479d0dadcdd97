use Rattle.toml_units.proofs.MovedUnits.{inside_moves}
use Rattle.toml_units.proofs.Under.{inside_is_under}
use Rattle.toml_units.proofs.laws.relative.Goals as goal

pub returns-clause-address : goal.returns-clause-address
returns-clause-address c = inside_is_under

pub returns-clause-place : goal.returns-clause-place
returns-clause-place c = inside_moves
