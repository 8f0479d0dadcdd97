use Rattle.toml_tree.proofs.PlainTables.{inside_of_profile}
use Rattle.toml_tree.proofs.Profiled.{one_is_in_two}
use Rattle.toml_tree.proofs.laws.profiles.Goals as goal

pub returns-clause-wider : goal.returns-clause-wider
returns-clause-wider c = one_is_in_two

pub returns-clause-inside : goal.returns-clause-inside
returns-clause-inside c = inside_of_profile
