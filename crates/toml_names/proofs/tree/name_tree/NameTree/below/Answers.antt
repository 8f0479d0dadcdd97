use Rattle.toml_names.proofs.Common.{rules}
use Rattle.toml_names.proofs.lemmas.model.Levels.{item_got}
use Rattle.toml_names.proofs.lemmas.tree.NodeData.{node_read}
use Rattle.toml_names.proofs.tree.name_tree.NameTree.below.Goals as goal

pub returns-in-Index : goal.returns-in-Index
returns-in-Index c = search (rules, node_read, item_got)
