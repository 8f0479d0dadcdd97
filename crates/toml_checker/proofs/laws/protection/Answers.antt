use Rattle.toml_checker.proofs.ProtectedUnits.{inner_are_protected, protected_are_carried}
use Rattle.toml_checker.proofs.laws.protection.Goals as goal

pub returns-clause-inner : goal.returns-clause-inner
returns-clause-inner c = inner_are_protected

pub returns-clause-carried : goal.returns-clause-carried
returns-clause-carried c = protected_are_carried
