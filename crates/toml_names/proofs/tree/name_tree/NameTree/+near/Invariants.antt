use Rattle.toml_names.proofs.Common.{◌+◌, ◌-◌, ◌*◌, ◌≡◌, length, vec_len}
use Rattle.toml_names.proofs.lemmas.tree.NearData.{AreNear, FillsNear}
use Rattle.toml_names.proofs.tree.name_tree.NameTree.+near.Given as goal

-- what is below a node lies behind it
abbrev pub decreases-datum_near : goal.decreases-datum_near
decreases-datum_near l = 3 * (vec_len l.self.now.nodes - l.id) + 1

abbrev pub decreases-table_near : goal.decreases-table_near
decreases-table_near l = 3 * (vec_len l.self.now.nodes - l.id)

abbrev pub decreases-array_near : goal.decreases-array_near
decreases-array_near l = 3 * (vec_len l.self.now.nodes - l.id)

abbrev pub decreases-element_near : goal.decreases-element_near
decreases-element_near l = 3 * (vec_len l.self.now.nodes - l.id) + 2

abbrev pub invariant-array_near-loop-index : goal.invariant-array_near-loop-index
invariant-array_near-loop-index l = (length l.items.items ≡ l.index) × AreNear l.self.nodes.items l.set l.elements l.items.items

abbrev pub invariant-table_near-loop-name : goal.invariant-table_near-loop-name
invariant-table_near-loop-name l = FillsNear l.self.nodes.items l.id l.set l.name-iterator l.members
