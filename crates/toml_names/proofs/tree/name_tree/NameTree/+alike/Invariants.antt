use Rattle.toml_names.proofs.Common.{◌+◌, ◌-◌, ◌*◌, ◌<◌, ℕ, take, vec_len, slice_get, EachIs}
use Rattle.toml_names.proofs.lemmas.tree.Alike.{IsAlike}
use Rattle.toml_names.specs.tree.SameBelow.{SameIn}
use Rattle.toml_names.proofs.tree.name_tree.NameTree.+alike.Given as goal

-- what is below a node lies behind it
abbrev pub decreases-same_below : goal.decreases-same_below
decreases-same_below l = 3 * (vec_len l.self.now.nodes - l.id) + 1

abbrev pub decreases-same_names : goal.decreases-same_names
decreases-same_names l = 3 * (vec_len l.self.now.nodes - l.id)

abbrev pub decreases-same_at : goal.decreases-same_at
decreases-same_at l = 3 * (vec_len l.self.now.nodes - l.id) + 2

abbrev pub decreases-same_elements : goal.decreases-same_elements
decreases-same_elements l = 3 * (vec_len l.self.now.nodes - l.id)

abbrev pub invariant-same_names-loop-place : goal.invariant-same_names-loop-place
invariant-same_names-loop-place l = EachIs (IsAlike l.self.nodes.items l.other.nodes.items l.other_id) (take l.place l.names)

abbrev pub invariant-same_elements-loop-index : goal.invariant-same_elements-loop-index
invariant-same_elements-loop-index l = (i : ℕ) → i < l.index → SameIn l.self.nodes.items (slice_get l.elements i) l.other.nodes.items (slice_get l.others i)
