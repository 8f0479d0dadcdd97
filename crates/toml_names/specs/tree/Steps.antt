-- What one step of the tree of names makes of it.
use Rattle.std.specs.Prelude.{◌≡◌, ◌<◌, ◌≤◌, ◌+◌, ℕ, List, length, true, false, Result, IfOk, IfErr, slice_index_or}
use Rattle.toml_names.specs.declared.model.address.Step.TheVariants.{Index}
use Rattle.toml_names.specs.declared.mentions.mention.Role.{Role}
use Rattle.toml_names.specs.declared.tree.name_tree.EnterFault.{EnterFault}
use Rattle.toml_names.specs.declared.tree.name_tree.EnterFault.TheVariants.{Clash}
use Rattle.toml_names.specs.declared.tree.name_tree.NameTree.{NameTree as Tree}
use Rattle.toml_names.specs.model.Addresses.{Address}
use Rattle.toml_names.specs.mentions.Mentions.{Kind}
use Rattle.toml_names.specs.tree.NameTree.{IsTree}
use Rattle.toml_names.specs.tree.Nodes.{IsNotedOnce, Spot, address_at, grown, undone}
use Rattle.toml_names.specs.mentions.Rules.{may_follow}

-- the nodes are a tree, and this is one of them
pub record IsNode (nodes : List Spot) (id : ℕ) : Type 0 where
  pub tree : IsTree nodes
  pub within : id < length nodes

-- the count of look-ups does not fall, and rises by at most so many
pub record RisesBy (parts old new : ℕ) : Type 0 where
  pub most : new ≤ old + parts
  pub least : old ≤ new

-- undoing gives what it gave before, and at most so many key parts were looked up
pub record GoesOn (parts : ℕ) (old new : Tree) : Type 0 where
  pub can_undo : undone new.changes.items new.nodes.items ≡ undone old.changes.items old.nodes.items
  pub lookups : RisesBy parts old.lookups new.lookups

-- One step: with Ok it made this, with a clash this is so of its address, and want of memory says nothing; it goes on from what was there,
-- whatever it answers.
pub record Steps {A : Type 0} (parts : ℕ) (old new : Tree) (result : Result A EnterFault) (Makes : A → Type 0) (Refuses : Address → Type 0) : Type 0 where
  pub made : IfOk result Makes
  pub clash : IfErr result (λ e. (a : Address) → e ≡ Clash a → Refuses a)
  pub goes_on : GoesOn parts old new

-- one more element hangs under the node, as the last of its elements
pub record Grows (old new : List Spot) (above : ℕ) (r : Role) (k : Kind) (line : ℕ) (id : ℕ) : Type 0 where
  pub grown_is : (d : Spot) → new ≡ grown old above (slice_index_or old above d) (Index (length (slice_index_or old above d).elements)) r k line
  pub last : id ≡ length old

-- the node's mark lets the role follow, and it is named once more
pub record IsNoted (old new : List Spot) (id : ℕ) (r : Role) (line : ℕ) : Type 0 where
  pub goes : (d : Spot) → may_follow (slice_index_or old id d).role r ≡ true
  pub nodes : IsNotedOnce old new id r line

-- the node has the address, and its mark does not let the role follow
pub record IsBarred (nodes : List Spot) (id : ℕ) (r : Role) (a : Address) : Type 0 where
  pub bad : (d : Spot) → may_follow (slice_index_or nodes id d).role r ≡ false
  pub address : address_at nodes id ≡ a
