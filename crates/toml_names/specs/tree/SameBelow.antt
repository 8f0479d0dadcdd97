-- Whether the same stands in two trees of names.
use Rattle.std.specs.Prelude.{◌≡◌, ℕ, List, Option, Some, None, slice_get, slice_index_or}
use Rattle.std.specs.Map.{lookup}
use Rattle.std.specs.Str.{bytes_eq}
use Rattle.toml_names.specs.declared.model.address.Step.{Step}
use Rattle.toml_names.specs.declared.model.address.Step.TheVariants.{Name, Index}
use Rattle.toml_names.specs.model.Addresses.{Address}
use Rattle.toml_names.specs.tree.Held.{below_node, below_in}
use Rattle.toml_names.specs.tree.Nodes.{Spot, nowhere}

-- the node of a name in the table at a node, and that of an element of its array
abbrev pub child_of : List Spot → ℕ → List ℕ → Option ℕ
child_of nodes id n = lookup (bytes_eq n) (slice_index_or nodes id nowhere).children

abbrev pub element_of : List Spot → ℕ → ℕ → Option ℕ
element_of nodes id i = slice_get (slice_index_or nodes id nowhere).elements i

-- the same stands at the two nodes and below them
abbrev pub SameBelow : List Spot → ℕ → List Spot → ℕ → Type 0
SameBelow nodes id others k = (at : Address) → below_node nodes id at ≡ below_node others k at

-- at two nodes that may not be there
abbrev pub SameIn : List Spot → Option ℕ → List Spot → Option ℕ → Type 0
SameIn nodes o others p = (at : Address) → below_in nodes o at ≡ below_in others p at

-- the node one step below a node that may not be there
abbrev pub step_in : List Spot → Option ℕ → Step → Option ℕ
step_in nodes None s = None
step_in nodes (Some id) (Name n) = child_of nodes id n
step_in nodes (Some id) (Index i) = element_of nodes id i

-- at the node and at a name of another one
abbrev pub SameAtName : List Spot → ℕ → List Spot → Option ℕ → List ℕ → Type 0
SameAtName nodes id others o n = SameIn nodes (Some id) others (step_in others o (Name n))

-- at each name of the two nodes
abbrev pub SameNames : List Spot → ℕ → List Spot → ℕ → Type 0
SameNames nodes id others k = (n : List ℕ) → SameIn nodes (child_of nodes id n) others (child_of others k n)

-- at each element
abbrev pub SameElements : List Spot → ℕ → List Spot → ℕ → Type 0
SameElements nodes id others k = (i : ℕ) → SameIn nodes (element_of nodes id i) others (element_of others k i)
