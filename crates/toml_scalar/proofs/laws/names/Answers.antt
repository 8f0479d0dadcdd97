use Rattle.toml_scalar.proofs.NameValues.{name_found, name_meant, name_total}
use Rattle.toml_scalar.proofs.OneNames.{one_name}
use Rattle.toml_scalar.proofs.laws.names.Goals as goal

pub returns-clause-found : goal.returns-clause-found
returns-clause-found c = name_found

pub returns-clause-meant : goal.returns-clause-meant
returns-clause-meant c = name_meant

pub returns-clause-one : goal.returns-clause-one
returns-clause-one c = one_name

pub returns-clause-total : goal.returns-clause-total
returns-clause-total c = name_total
