use Rattle.toml_names.proofs.lemmas.tree.Ranks.{AreRanked}
use Rattle.toml_names.proofs.tree.name_tree.NameTree.ranks.Given as goal

abbrev pub invariant-loop-node : goal.invariant-loop-node
invariant-loop-node l = AreRanked l.self.nodes.items l.ranks.items l.count l.node-index
