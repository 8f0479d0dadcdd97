use Rattle.toml_names.proofs.Common.{◌+◌, ◌-◌, ◌*◌, drop, take, vec_len}
use Rattle.toml_names.proofs.lemmas.tree.NodeData.{ItemsAre, Fills}
use Rattle.toml_names.proofs.tree.name_tree.NameTree.+datum.Given as goal

-- what is below a node lies behind it, and the parts of its datum call for those alone
abbrev pub decreases-datum : goal.decreases-datum
decreases-datum l = 2 * (vec_len l.self.now.nodes - l.id) + 1

abbrev pub decreases-table_datum : goal.decreases-table_datum
decreases-table_datum l = 2 * (vec_len l.self.now.nodes - l.id)

abbrev pub decreases-array_datum : goal.decreases-array_datum
decreases-array_datum l = 2 * (vec_len l.self.now.nodes - l.id)

abbrev pub invariant-array_datum-loop-below : goal.invariant-array_datum-loop-below
invariant-array_datum-loop-below l = ItemsAre l.self.nodes.items (take l.below-index l.elements) l.items.items

abbrev pub invariant-table_datum-loop-place : goal.invariant-table_datum-loop-place
invariant-table_datum-loop-place l = Fills l.self.nodes.items l.names (drop l.place l.names) l.members
