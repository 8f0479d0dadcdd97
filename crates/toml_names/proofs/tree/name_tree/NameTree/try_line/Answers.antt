use Rattle.toml_names.proofs.Common.{true≢false, rules}
use Rattle.toml_names.proofs.lemmas.tree.NodeAddresses.{stays_short, grows_long}
use Rattle.toml_names.proofs.tree.name_tree.NameTree.try_line.Goals as goal

pub returns-then-are_short_from-clause-entered : goal.returns-then-are_short_from-clause-entered
returns-then-are_short_from-clause-entered c = search (rules, stays_short)

pub returns-else-are_short_from-clause-refused : goal.returns-else-are_short_from-clause-refused
returns-else-are_short_from-clause-refused c = search (rules, true≢false, grows_long)
