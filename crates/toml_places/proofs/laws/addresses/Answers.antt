use Rattle.toml_places.proofs.Proved.{one_address, below_closed, below_steps_closed}
use Rattle.toml_places.proofs.laws.addresses.Goals as goal

pub returns-clause-one : goal.returns-clause-one
returns-clause-one c = one_address

pub returns-clause-below : goal.returns-clause-below
returns-clause-below c = below_closed

pub returns-clause-below_steps : goal.returns-clause-below_steps
returns-clause-below_steps c = below_steps_closed
