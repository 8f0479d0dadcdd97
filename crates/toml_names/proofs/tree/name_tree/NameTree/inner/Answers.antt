use Rattle.toml_names.proofs.Common.{rules}
use Rattle.toml_names.proofs.lemmas.tree.InnerNodes.{read_twice, last_element}
use Rattle.toml_names.proofs.tree.name_tree.NameTree.inner.Goals as goal

pub returns-in-Tables-clause-within : goal.returns-in-Tables-clause-within
returns-in-Tables-clause-within c = search (rules, read_twice, last_element)

pub returns-in-Tables-clause-entered : goal.returns-in-Tables-clause-entered
returns-in-Tables-clause-entered c = search (rules, read_twice, last_element)
