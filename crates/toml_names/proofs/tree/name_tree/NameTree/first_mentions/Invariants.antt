use Rattle.toml_names.proofs.Common.{◌≡◌}
use Rattle.toml_names.proofs.lemmas.tree.Ranks.{mentioned_upto}
use Rattle.toml_names.proofs.tree.name_tree.NameTree.first_mentions.Given as goal

abbrev pub invariant-loop-id : goal.invariant-loop-id
invariant-loop-id l = l.list.items ≡ mentioned_upto l.self.nodes.items l.id
