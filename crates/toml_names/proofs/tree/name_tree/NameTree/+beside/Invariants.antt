use Rattle.toml_names.proofs.Common.{◌+◌, ◌-◌, ◌*◌, take, vec_len, EachIs}
use Rattle.toml_names.proofs.lemmas.tree.HeldBeside.{HeldSoFar, IsHeldAt}
use Rattle.toml_names.proofs.tree.name_tree.NameTree.+beside.Given as goal

-- what is below a node lies behind it
abbrev pub decreases-holds_beside : goal.decreases-holds_beside
decreases-holds_beside l = 3 * (vec_len l.self.now.nodes - l.id) + 1

abbrev pub decreases-hold_names : goal.decreases-hold_names
decreases-hold_names l = 3 * (vec_len l.self.now.nodes - l.id)

abbrev pub decreases-holds_name : goal.decreases-holds_name
decreases-holds_name l = 3 * (vec_len l.self.now.nodes - l.id) + 2

abbrev pub decreases-hold_elements : goal.decreases-hold_elements
decreases-hold_elements l = 3 * (vec_len l.self.now.nodes - l.id)

abbrev pub decreases-holds_element : goal.decreases-holds_element
decreases-holds_element l = 3 * (vec_len l.self.now.nodes - l.id) + 2

abbrev pub invariant-hold_names-loop-place : goal.invariant-hold_names-loop-place
invariant-hold_names-loop-place l = EachIs (IsHeldAt l.self.nodes.items l.other.nodes.items l.there l.set l.datum) (take l.place l.names)

abbrev pub invariant-hold_elements-loop-index : goal.invariant-hold_elements-loop-index
invariant-hold_elements-loop-index l = HeldSoFar l.self.nodes.items l.elements l.other.nodes.items l.there l.set l.items l.index
