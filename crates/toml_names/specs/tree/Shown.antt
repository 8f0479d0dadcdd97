-- Whether a set of addresses hides nothing of what stands in a tree of names.
use Rattle.std.specs.Prelude.{◌≡◌, ◌≤◌, ℕ, true, List, Option, None}
use Rattle.toml_names.specs.declared.model.address.Step.{Step}
use Rattle.toml_names.specs.declared.model.address.Step.TheVariants.{Name, Index}
use Rattle.toml_names.specs.declared.model.address_set.AddressSet.{AddressSet}
use Rattle.toml_names.specs.model.Addresses.{Address}
use Rattle.toml_names.specs.model.AddressSets.{below, hides, is_hidden}
use Rattle.toml_names.specs.tree.Held.{below_node, below_in}
use Rattle.toml_names.specs.tree.Nodes.{Spot}
use Rattle.toml_names.specs.tree.SameBelow.{child_of, element_of}

-- nothing that stands at the node and below it is hidden by the set
abbrev pub IsShown : List Spot → ℕ → AddressSet → Type 0
IsShown nodes id set = (at : Address) → is_hidden set at ≡ true → below_node nodes id at ≡ None

-- the same at a step, with what a set has there
abbrev pub IsShownIn : List Spot → Option ℕ → Step → Option AddressSet → Type 0
IsShownIn nodes o s part = (at : Address) → hides part s at ≡ true → below_in nodes o at ≡ None

-- so at each name of the node,
abbrev pub AreNamesShown : List Spot → ℕ → AddressSet → Type 0
AreNamesShown nodes id set = (n : List ℕ) → IsShownIn nodes (child_of nodes id n) (Name n) (below set (Name n))

-- and at each of its elements from an index on
abbrev pub AreElementsShown : List Spot → ℕ → ℕ → AddressSet → Type 0
AreElementsShown nodes id from set = (i : ℕ) → from ≤ i → IsShownIn nodes (element_of nodes id i) (Index i) (below set (Index i))
