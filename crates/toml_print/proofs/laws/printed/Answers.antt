use Rattle.toml_print.proofs.Proved.{one_tree, tree_is_tagged, one_tagged, one_printed}
use Rattle.toml_print.proofs.laws.printed.Goals as goal

pub returns-clause-tree : goal.returns-clause-tree
returns-clause-tree c = one_tree

pub returns-clause-of_tree : goal.returns-clause-of_tree
returns-clause-of_tree c = tree_is_tagged

pub returns-clause-tagged : goal.returns-clause-tagged
returns-clause-tagged c = one_tagged

pub returns-clause-text : goal.returns-clause-text
returns-clause-text c = one_printed
