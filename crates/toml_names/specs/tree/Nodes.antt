-- The nodes of the tree of names, in the order in which they were made, and the changes that a line makes in them.
use Rattle.std.specs.Prelude.{◌≡◌, ℕ, ◌+◌, ◌-◌, if◌then◌else◌, List, [], ◌∷◌, ◌++◌, length, take, Option, Some, None, slice_get, slice_set, slice_index_or}
use Rattle.std.specs.Global.{Box}
use Rattle.std.specs.Option.{option_map}
use Rattle.std.specs.declared.alloc.Global.{Global}
use Rattle.std.specs.declared.vec.Vec.{Vec}
use Rattle.toml_names.specs.declared.model.address.Step.{Step}
use Rattle.toml_names.specs.declared.model.address.Step.TheVariants.{Name, Index}
use Rattle.toml_names.specs.declared.mentions.mention.Role.{Role}
use Rattle.toml_names.specs.declared.mentions.mention.Role.TheVariants.{Bare}
use Rattle.toml_names.specs.declared.tree.node.Below.{Below}
use Rattle.toml_names.specs.declared.tree.node.Under.{Under}
use Rattle.toml_names.specs.declared.tree.node.Under.TheVariants as unders
use Rattle.toml_names.specs.declared.tree.name_tree.Change.{Change}
use Rattle.toml_names.specs.declared.tree.name_tree.Change.TheVariants.{NameLinked, ElementLinked, RoleNoted}
use Rattle.toml_names.specs.model.Addresses.{Address, same_address}
use Rattle.toml_names.specs.mentions.Keys.{spelled_name}
use Rattle.toml_names.specs.mentions.Local.{role_after}
use Rattle.toml_names.specs.mentions.Mentions.{Kind, a_table}
use Rattle.toml_names.specs.model.Places.{same_role}

-- a node: the node above it and the step from there, none for the root; how many steps its address has; the mark of its address, what
-- stands there and the line that made it so; the nodes of the names in it, and those of its elements
pub record Spot : Type 0 where
  pub under : Option (ℕ × Step)
  pub depth : ℕ
  pub role : Role
  pub kind : Kind
  pub line : ℕ
  pub children : List (List ℕ × ℕ)
  pub elements : List ℕ

abbrev pub under_of : Under → Option (ℕ × Step)
under_of unders.Root = None
under_of (unders.Name above text) = Some (above, Name (spelled_name text.now))
under_of (unders.Index above index) = Some (above, Index index)

-- the step from the node above to the node; of the root, which has none, some step
abbrev pub step_under : Option (ℕ × Step) → Step
step_under None = Index 0
step_under (Some u) = u.1

abbrev pub last_step : Spot → Step
last_step s = step_under s.under

-- the steps are the last ones of the first nodes
abbrev pub AreSteps : List Spot → List Step → Type 0
AreSteps nodes steps = (k : ℕ) (s : Step) → slice_get steps k ≡ Some s → (d : Spot) → s ≡ last_step (slice_index_or nodes k d)

-- what hangs under a node: no names and no elements where nothing does
abbrev pub names_below : Option (Box Below) → List (List ℕ × ℕ)
names_below None = []
names_below (Some b) = b.value.names

-- the nodes of elements, of which there may be no list
abbrev pub elements_of : Option (Box (Vec ℕ Global)) → List ℕ
elements_of None = []
elements_of (Some list) = list.value.items

-- the nodes of the elements below a node
abbrev pub elements_below : Option (Box Below) → List ℕ
elements_below None = []
elements_below (Some b) = elements_of b.value.elements

-- the address under a node, whose address is among the earlier ones
abbrev pub address_under : List Address → Option (ℕ × Step) → Address
address_under above None = []
address_under above (Some u) = slice_index_or above u.0 [] ++ u.1 ∷ []

abbrev pub addresses_from : List Address → List Spot → List Address
addresses_from above [] = above
addresses_from above (s ∷ ss) = addresses_from (above ++ address_under above s.under ∷ []) ss

-- the addresses of the nodes
abbrev pub addresses : List Spot → List Address
addresses = addresses_from []

abbrev pub address_at : List Spot → ℕ → Address
address_at nodes k = slice_index_or (addresses nodes) k []

-- the address begins with that of the node
abbrev pub BeginsAt : List Spot → ℕ → Address → Type 0
BeginsAt nodes id at = take (length (address_at nodes id)) at ≡ address_at nodes id

-- the first place of an address
abbrev pub place_of : Address → List Address → Option ℕ
place_of at [] = None
place_of at (a ∷ rest) = if same_address a at then Some 0 else option_map (λ i. i + 1) (place_of at rest)

-- a node that leads nowhere
abbrev pub leaf : Option (ℕ × Step) → ℕ → Role → Kind → ℕ → Spot
leaf under depth r k line = record { under = under; depth = depth; role = r; kind = k; line = line; children = []; elements = [] }

-- a node that no list has
abbrev pub nowhere : Spot
nowhere = leaf None 0 Bare a_table 0

-- a step more leads from the node to another one
abbrev pub linked : Spot → Step → ℕ → Spot
linked s (Name n) id = record s { children = s.children ++ (n, id) ∷ [] }
linked s (Index i) id = record s { elements = s.elements ++ id ∷ [] }

-- one more node, below the node `p`, which was `parent`
abbrev pub grown : List Spot → ℕ → Spot → Step → Role → Kind → ℕ → List Spot
grown nodes p parent s r k line = slice_set nodes p (linked parent s (length nodes)) ++ leaf (Some (p, s)) (parent.depth + 1) r k line ∷ []

-- a node is named once more, in the role, by the line; it keeps the line of its own where its mark stays
abbrev pub marked : Spot → Role → ℕ → Spot
marked s r line = record s { role = role_after s.role r; line = if same_role (role_after s.role r) s.role then s.line else line }

-- the node `k`, which was `here`, is named once more
abbrev pub noted : List Spot → ℕ → Spot → Role → ℕ → List Spot
noted nodes k here r line = slice_set nodes k (marked here r line)

-- the node is named once more, and nothing else changes
abbrev pub IsNotedOnce : List Spot → List Spot → ℕ → Role → ℕ → Type 0
IsNotedOnce old new k r line = (d : Spot) → new ≡ noted old k (slice_index_or old k d) r line

-- a node without the last name, or the last element, that was linked
abbrev pub without_name : Spot → Spot
without_name s = record s { children = take (length s.children - 1) s.children }

abbrev pub without_element : Spot → Spot
without_element s = record s { elements = take (length s.elements - 1) s.elements }

abbrev pub remarked : Spot → Role → ℕ → Spot
remarked s r line = record s { role = r; line = line }

-- the nodes before the change
abbrev pub reverted : Change → List Spot → List Spot
reverted (NameLinked p) nodes =
    slice_set (take (length nodes - 1) nodes) p (without_name (slice_index_or (take (length nodes - 1) nodes) p nowhere))
reverted (ElementLinked p) nodes =
    slice_set (take (length nodes - 1) nodes) p (without_element (slice_index_or (take (length nodes - 1) nodes) p nowhere))
reverted (RoleNoted k r line) nodes = slice_set nodes k (remarked (slice_index_or nodes k nowhere) r line)

-- the nodes before the changes, of which the last comes last in the list
abbrev pub undone : List Change → List Spot → List Spot
undone [] nodes = nodes
undone (c ∷ cs) nodes = reverted c (undone cs nodes)
