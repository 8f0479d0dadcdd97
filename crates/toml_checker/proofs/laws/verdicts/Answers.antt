use Rattle.toml_checker.proofs.Verdicts.{certified_is_all_demands, one_verdict}
use Rattle.toml_checker.proofs.laws.verdicts.Goals as goal

pub returns-clause-demands : goal.returns-clause-demands
returns-clause-demands c = certified_is_all_demands

pub returns-clause-one : goal.returns-clause-one
returns-clause-one c = one_verdict
