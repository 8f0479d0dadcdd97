-- A tree of names that is another one where a set of addresses hides it, and elsewhere has what data tell.
use Rattle.std.specs.Prelude.{◌≡◌, ◌≤◌, ℕ, List, [], ◌∷◌, Option, Some, None, IsSome, slice_get}
use Rattle.toml_names.specs.declared.model.address.Step.{Step}
use Rattle.toml_names.specs.declared.model.address.Step.TheVariants.{Name, Index}
use Rattle.toml_names.specs.declared.model.address_set.AddressSet.{AddressSet}
use Rattle.toml_names.specs.declared.model.datum.Datum.{Datum}
use Rattle.toml_names.specs.model.Addresses.{Address}
use Rattle.toml_names.specs.model.AddressSets.{below, hides, is_hidden}
use Rattle.toml_names.specs.model.Data.{Kinds, kind_at, kind_in}
use Rattle.toml_names.specs.model.Hidden.{beside}
use Rattle.toml_names.specs.tree.Held.{below_node, below_in}
use Rattle.toml_names.specs.tree.Nodes.{Spot}
use Rattle.toml_names.specs.tree.SameBelow.{child_of, element_of, step_in}
use Rattle.toml_names.specs.tree.Shown.{IsShownIn}

-- at the node and below it stands what the datum has, and where the set hides it what the other tree has at its node, if there is one
abbrev pub HoldsBeside : List Spot → ℕ → List Spot → Option ℕ → AddressSet → Datum → Type 0
HoldsBeside nodes id others o set d = (at : Address) → beside (is_hidden set) (below_in others o) (kind_at d) at ≡ below_node nodes id at

-- the same at nodes of a step that may not be there, with what a set has at the step
abbrev pub IsHeld : List Spot → Option ℕ → List Spot → Option ℕ → Step → Option AddressSet → Kinds → Type 0
IsHeld nodes id others o s part kinds = (at : Address) → beside (hides part s) (below_in others o) kinds at ≡ below_in nodes id at

-- the same, with what the set has at the step
abbrev pub IsHeldAtStep : List Spot → Option ℕ → List Spot → Option ℕ → AddressSet → Step → Kinds → Type 0
IsHeldAtStep nodes id others o set s = IsHeld nodes id others o s (below set s)

-- what a datum has one step below
abbrev pub kinds_at : Datum → Step → Kinds
kinds_at d s at = kind_at d (s ∷ at)

-- so it is at a name of the node,
abbrev pub HoldsName : List Spot → ℕ → List Spot → Option ℕ → AddressSet → Datum → List ℕ → Type 0
HoldsName nodes id others o set d n = IsHeldAtStep nodes (Some id) others (step_in others o (Name n)) set (Name n) (kinds_at d (Name n))

-- at each name that it has,
abbrev pub HoldNames : List Spot → ℕ → List Spot → Option ℕ → AddressSet → Datum → Type 0
HoldNames nodes id others o set d = (n : List ℕ) (k : ℕ) → child_of nodes id n ≡ Some k → HoldsName nodes k others o set d n

-- and at each index
abbrev pub HoldElements : List Spot → ℕ → List Spot → Option ℕ → AddressSet → List Datum → Type 0
HoldElements nodes id others o set items =
    (i : ℕ) → IsHeldAtStep nodes (element_of nodes id i) others (step_in others o (Index i)) set (Index i) (kind_in (slice_get items i))

-- the node has each member's name that the set has,
abbrev pub HasMembers : List Spot → ℕ → AddressSet → Datum → Type 0
HasMembers nodes id set d = (n : List ℕ) → IsSome (below set (Name n)) → IsSome (kind_at d (Name n ∷ [])) → IsSome (child_of nodes id n)

-- it has the name, or the set hides nothing of what the other node has there,
abbrev pub HasOrShows : List Spot → ℕ → List Spot → Option ℕ → AddressSet → List ℕ → Type 0
HasOrShows nodes id others p set n = child_of nodes id n ≡ None → IsShownIn others p (Name n) (below set (Name n))

-- so it is of each name of the other node
abbrev pub HasNamesOf : List Spot → ℕ → List Spot → Option ℕ → AddressSet → Type 0
HasNamesOf nodes id others o set = (n : List ℕ) → HasOrShows nodes id others (step_in others o (Name n)) set n

-- nothing is hidden of what stands at the other node's elements from an index on
abbrev pub ShowsBehind : List Spot → Option ℕ → ℕ → AddressSet → Type 0
ShowsBehind others o from set = (i : ℕ) → from ≤ i → IsShownIn others (step_in others o (Index i)) (Index i) (below set (Index i))

-- the node is of the datum's kind, and below it stands what does below the other node
pub record HoldsAlone (nodes : List Spot) (id : ℕ) (others : List Spot) (o : Option ℕ) (d : Datum) : Type 0 where
  pub kind : kind_at d [] ≡ below_node nodes id []
  pub same : (s : Step) (at : Address) → below_in others o (s ∷ at) ≡ below_node nodes id (s ∷ at)
