use Rattle.toml_tree.proofs.Exact.{one_tree, one_tree_in}
use Rattle.toml_tree.proofs.laws.one_tree.Goals as goal

pub returns-clause-one : goal.returns-clause-one
returns-clause-one c = one_tree

pub returns-clause-of_profile : goal.returns-clause-of_profile
returns-clause-of_profile c = one_tree_in
