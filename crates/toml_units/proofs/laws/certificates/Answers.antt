use Rattle.toml_units.proofs.Certificates.{one_certificate}
use Rattle.toml_units.proofs.Decimals.{number_decimal}
use Rattle.toml_units.proofs.laws.certificates.Goals as goal

pub returns-clause-one : goal.returns-clause-one
returns-clause-one c = one_certificate

pub returns-clause-decimal : goal.returns-clause-decimal
returns-clause-decimal c = number_decimal
