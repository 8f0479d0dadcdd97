use Rattle.toml_names.proofs.Common.{◌+◌, ◌-◌, ◌*◌, ◌<◌, ℕ, vec_len, slice_get}
use Rattle.toml_names.proofs.lemmas.tree.Held.{HeldEach, IsHeldIn}
use Rattle.toml_names.proofs.tree.name_tree.NameTree.+holds.Given as goal

-- what is below a node lies behind it
abbrev pub decreases-holds : goal.decreases-holds
decreases-holds l = 2 * (vec_len l.self.now.nodes - l.id) + 1

abbrev pub decreases-holds_members : goal.decreases-holds_members
decreases-holds_members l = 2 * (vec_len l.self.now.nodes - l.id)

abbrev pub decreases-holds_items : goal.decreases-holds_items
decreases-holds_items l = 2 * (vec_len l.self.now.nodes - l.id)

abbrev pub invariant-holds_members-loop-name : goal.invariant-holds_members-loop-name
invariant-holds_members-loop-name l = HeldEach l.self.nodes.items l.id l.name-iterator → HeldEach l.self.nodes.items l.id l.members.entries

abbrev pub invariant-holds_items-loop-index : goal.invariant-holds_items-loop-index
invariant-holds_items-loop-index l = (i : ℕ) → i < l.index → IsHeldIn l.self.nodes.items (slice_get l.elements i) (slice_get l.items.items i)
