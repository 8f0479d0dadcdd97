use Rattle.toml_names.proofs.Common.{◌+◌, ◌-◌, ◌*◌, take, vec_len, EachIs}
use Rattle.toml_names.proofs.lemmas.tree.Shown.{IsNameShown, ShownSoFar}
use Rattle.toml_names.proofs.tree.name_tree.NameTree.+shown.Given as goal

-- what is below a node lies behind it
abbrev pub decreases-is_shown : goal.decreases-is_shown
decreases-is_shown l = 3 * (vec_len l.self.now.nodes - l.id) + 1

abbrev pub decreases-are_names_shown : goal.decreases-are_names_shown
decreases-are_names_shown l = 3 * (vec_len l.self.now.nodes - l.id)

abbrev pub decreases-is_name_shown : goal.decreases-is_name_shown
decreases-is_name_shown l = 3 * (vec_len l.self.now.nodes - l.id) + 2

abbrev pub decreases-are_elements_shown : goal.decreases-are_elements_shown
decreases-are_elements_shown l = 3 * (vec_len l.self.now.nodes - l.id)

abbrev pub decreases-is_element_shown : goal.decreases-is_element_shown
decreases-is_element_shown l = 3 * (vec_len l.self.now.nodes - l.id) + 2

abbrev pub invariant-are_names_shown-loop-place : goal.invariant-are_names_shown-loop-place
invariant-are_names_shown-loop-place l = EachIs (IsNameShown l.self.nodes.items l.set) (take l.place l.names)

abbrev pub invariant-are_elements_shown-loop-index : goal.invariant-are_elements_shown-loop-index
invariant-are_elements_shown-loop-index l = ShownSoFar l.self.nodes.items l.set l.elements l.from l.index
