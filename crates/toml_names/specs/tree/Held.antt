-- What stands in the tree of names, at an address and below it.
use Rattle.std.specs.Prelude.{◌≡◌, ◌++◌, ℕ, List, Option, Some, None, option_map, slice_index_or}
use Rattle.toml_names.specs.declared.model.datum.Datum.{Datum}
use Rattle.toml_names.specs.model.Addresses.{Address}
use Rattle.toml_names.specs.model.Data.{Kinds, kind_at}
use Rattle.toml_names.specs.tree.Nodes.{Spot, addresses, address_at, nowhere, place_of}

-- the kind of the node with the address, if there is one
abbrev pub node_kind : List Spot → Kinds
node_kind nodes at = option_map (λ k. (slice_index_or nodes k nowhere).kind) (place_of at (addresses nodes))

-- what stands at a node and below it
abbrev pub below_node : List Spot → ℕ → Kinds
below_node nodes id at = node_kind nodes (address_at nodes id ++ at)

-- what stands at a node that may not be there
abbrev pub below_in : List Spot → Option ℕ → Kinds
below_in nodes None at = None
below_in nodes (Some k) at = below_node nodes k at

-- the datum has what stands at the node's address and below it, and nothing else
abbrev pub Holds : List Spot → ℕ → Datum → Type 0
Holds nodes id d = (at : Address) → kind_at d at ≡ below_node nodes id at
