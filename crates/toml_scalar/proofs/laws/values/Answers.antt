use Rattle.toml_scalar.proofs.ScalarValues.{scalar_found, scalar_meant, one_scalar_value, token_has_value, value_is_of_token}
use Rattle.toml_scalar.proofs.laws.values.Goals as goal

pub returns-clause-found : goal.returns-clause-found
returns-clause-found c = scalar_found

pub returns-clause-meant : goal.returns-clause-meant
returns-clause-meant c = scalar_meant

pub returns-clause-one : goal.returns-clause-one
returns-clause-one c = one_scalar_value

pub returns-clause-total : goal.returns-clause-total
returns-clause-total c = token_has_value

pub returns-clause-token : goal.returns-clause-token
returns-clause-token c = value_is_of_token
