use Rattle.toml_scalar.proofs.FaultPlaces.{scalar_fault_at, key_fault_at, value_fault_at}
use Rattle.toml_scalar.proofs.laws.fault_places.Goals as goal

pub returns-clause-scalar : goal.returns-clause-scalar
returns-clause-scalar c = scalar_fault_at

pub returns-clause-key : goal.returns-clause-key
returns-clause-key c = key_fault_at

pub returns-clause-value : goal.returns-clause-value
returns-clause-value c = value_fault_at
