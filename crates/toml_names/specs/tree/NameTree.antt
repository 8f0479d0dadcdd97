-- The tree of names, and what was named: which of the one stand for which of the other.
use Rattle.std.specs.Prelude.{ℕ, ◌≡◌, ◌<◌, ◌≤◌, if◌then◌else◌, List, [], ◌∷◌, ◌++◌, length, Option, Some, None, slice_get, slice_index_or}
use Rattle.std.specs.Map.{lookup}
use Rattle.std.specs.Str.{bytes_eq}
use Rattle.toml_names.specs.declared.model.address.Step.{Step}
use Rattle.toml_names.specs.declared.model.address.Step.TheVariants.{Name}
use Rattle.toml_names.specs.declared.mentions.mention.Role.{Role}
use Rattle.toml_names.specs.declared.mentions.mention.Role.TheVariants.{Bare, Passed}
use Rattle.toml_names.specs.declared.tree.name_tree.Found.{Found}
use Rattle.toml_names.specs.declared.tree.name_tree.Found.TheVariants.{Known, New}
use Rattle.toml_names.specs.model.Addresses.{Address, child, element}
use Rattle.toml_names.specs.model.Data.{fact_at}
use Rattle.toml_names.specs.mentions.FirstMentions.{first_named}
use Rattle.toml_names.specs.mentions.Local.{mark_of}
use Rattle.toml_names.specs.mentions.Mentions.{Kind, Named, is_tables, count_tables, entered, table_at}
use Rattle.toml_names.specs.tree.Nodes.{Spot, addresses, address_at, place_of, grown}
use Rattle.toml_names.specs.model.Places.{first_line}
use Rattle.toml_names.specs.mentions.Rules.{misfit}

-- no address stands twice, and the address above one that stands there stands there too
pub record AreNested (ats : List Address) : Type 0 where
  pub own : (k : ℕ) (d : Address) → k < length ats → place_of (slice_index_or ats k d) ats ≡ Some k
  pub above : (at : Address) (s : Step) → place_of at ats ≡ None → place_of (at ++ s ∷ []) ats ≡ None

-- what leads from each node leads to the nodes below it, and each node but the root lies under an earlier one
pub record IsTree (nodes : List Spot) : Type 0 where
  pub nested : AreNested (addresses nodes)
  pub root : 0 < length nodes
  pub root_above : (d : Spot) → (slice_index_or nodes 0 d).under ≡ None
  pub names : (k : ℕ) (d : Spot) (n : List ℕ) → k < length nodes
      → lookup (bytes_eq n) (slice_index_or nodes k d).children ≡ place_of (child (address_at nodes k) n) (addresses nodes)
  pub indices : (k : ℕ) (d : Spot) (i : ℕ) → k < length nodes
      → slice_get (slice_index_or nodes k d).elements i ≡ place_of (element (address_at nodes k) i) (addresses nodes)
  pub rising : (k : ℕ) (d : Spot) (p : ℕ) (s : Step) → k < length nodes → (slice_index_or nodes k d).under ≡ Some (p, s) → p < k
  pub deep : (k : ℕ) (d : Spot) → k < length nodes → (slice_index_or nodes k d).depth ≡ length (address_at nodes k)
  pub mentioned : (k : ℕ) (d : Spot) (p : ℕ) (n : List ℕ) → k < length nodes → (slice_index_or nodes k d).under ≡ Some (p, Name n)
      → (slice_index_or nodes k d).role ≡ Bare → ⊥

-- an array of tables has as many elements as headers
abbrev pub table_count : Spot → ℕ
table_count s = if is_tables s.role then length s.elements else 0

-- The nodes stand for what was named: each for its address, with the mark, the kind, the line of the first mention in its mark's role and
-- the count of tables, in the order in which the addresses were first named; and no other address is named. All keeps the rules.
pub record IsTreeOf (nodes : List Spot) (ms : List Named) : Type 0 where
  pub tree : IsTree nodes
  pub marks : (k : ℕ) (d : Spot) → k < length nodes → mark_of ms (address_at nodes k) ≡ Some (slice_index_or nodes k d).role
  pub kinds : (k : ℕ) (d : Spot) → k < length nodes → fact_at ms (address_at nodes k) ≡ Some (slice_index_or nodes k d).kind
  pub lines : (k : ℕ) (d : Spot) → k < length nodes → first_line ms (address_at nodes k) (slice_index_or nodes k d).role ≡ Some (slice_index_or nodes k d).line
  pub counts : (k : ℕ) (d : Spot) → k < length nodes → count_tables ms (address_at nodes k) ≡ table_count (slice_index_or nodes k d)
  pub no_marks : (at : Address) → place_of at (addresses nodes) ≡ None → mark_of ms at ≡ None
  pub no_facts : (at : Address) → place_of at (addresses nodes) ≡ None → fact_at ms at ≡ None
  pub no_counts : (at : Address) → place_of at (addresses nodes) ≡ None → count_tables ms at ≡ 0
  pub firsts : addresses nodes ≡ first_named [] ms
  pub good : misfit [] ms ≡ None

-- the nodes that were there are there, at their addresses
pub record KeepsAddresses (old new : List Spot) : Type 0 where
  pub longer : length old ≤ length new
  pub same : (k : ℕ) → k < length old → address_at new k ≡ address_at old k

-- `inner` is where a header goes on at this node: the node of the last table of an array of tables, else the node itself
abbrev pub IsInner : List Spot → ℕ → ℕ → Type 0
IsInner nodes id inner = (ms : List Named) → IsTreeOf nodes ms → address_at nodes inner ≡ entered ms (address_at nodes id)

-- the nodes stand for what was named before, and now for what is made too, which keeps the rules
pub record Enters (old new : List Spot) (made : List Named) : Type 0 where
  pub tree : IsTree new
  pub kept : KeepsAddresses old new
  pub stands : (ms : List Named) → IsTreeOf old ms → IsTreeOf new (ms ++ made)
  pub goes : (ms : List Named) → IsTreeOf old ms → misfit ms made ≡ None

-- the first of what would be made that breaks the rules is at the address
abbrev pub Clashes : List Spot → List Named → Address → Type 0
Clashes nodes made at = (ms : List Named) → IsTreeOf nodes ms → misfit ms made ≡ Some at

-- the same of what would be made after what was named before
abbrev pub ClashesAfter : List Spot → (List Named → List Named) → Address → Type 0
ClashesAfter nodes made at = (ms : List Named) → IsTreeOf nodes ms → misfit ms (made ms) ≡ Some at

-- the root, named in the role
abbrev pub root_as : Role → Kind → Named
root_as r k = record { address = []; role = r; kind = k; line = 0 }

-- where a name leads from the node
abbrev pub LeadsBy : List Spot → ℕ → List ℕ → Option ℕ → Type 0
LeadsBy nodes at n to = (d : Spot) → lookup (bytes_eq n) (slice_index_or nodes at d).children ≡ to

-- the node has no elements
abbrev pub HasNoElements : List Spot → ℕ → Type 0
HasNoElements nodes id = (d : Spot) → (slice_index_or nodes id d).elements ≡ []

-- Where a name leads from the node `above`: to a node that was there, among the same nodes; or nowhere, and then to a new one.
abbrev pub IsFound : List Spot → List Spot → ℕ → List ℕ → Role → Kind → ℕ → Found → Type 0
IsFound old new above n r k line (Known id) =
    (new ≡ old) × LeadsBy old above n (Some id)
IsFound old new above n r k line (New id) =
    (id ≡ length old)
    × LeadsBy old above n None
    × ((d : Spot) → new ≡ grown old above (slice_index_or old above d) (Name n) r k line)

-- the name leads nowhere from the node
abbrev pub IsAbsent : List Spot → ℕ → List ℕ → Type 0
IsAbsent nodes at n = LeadsBy nodes at n None

-- the node has the address
pub record LeadsTo (nodes : List Spot) (id : ℕ) (at : Address) : Type 0 where
  pub within : id < length nodes
  pub address : address_at nodes id ≡ at

-- the nodes that were there have the elements that they had
abbrev pub KeepsElements : List Spot → List Spot → Type 0
KeepsElements old new = (k : ℕ) (d : Spot) → k < length old → (slice_index_or new k d).elements ≡ (slice_index_or old k d).elements

-- the nodes that were there, but one, have the elements that they had
abbrev pub KeepsOthers : ℕ → List Spot → List Spot → Type 0
KeepsOthers id old new = (k : ℕ) (d : Spot) → k < length old → (k ≡ id → ⊥) → (slice_index_or new k d).elements ≡ (slice_index_or old k d).elements

-- this was named, and the node has the address
pub record EntersTo (old new : List Spot) (made : List Named) (at : Address) (id : ℕ) : Type 0 where
  pub enters : Enters old new made
  pub leads : LeadsTo new id at
  pub elements : KeepsElements old new

-- this was named inside the value of the node
pub record EntersInside (old new : List Spot) (made : List Named) (id : ℕ) : Type 0 where
  pub enters : Enters old new made
  pub elements : KeepsOthers id old new

-- what a name in the table of the node `at` is named as
abbrev pub name_at : List Spot → ℕ → List ℕ → Role → Kind → ℕ → Named
name_at nodes at n r k line = record { address = child (address_at nodes at) n; role = r; kind = k; line = line }

-- Passing a front of a header's key: into the last table of an array, or into the table itself.
pub record Passes (old new : List Spot) (id at line : ℕ) (n : List ℕ) : Type 0 where
  pub tree : IsTree new
  pub kept : KeepsAddresses old new
  pub within : id < length new
  pub stands : (ms : List Named) → IsTreeOf old ms → IsTreeOf new (ms ++ table_at line Passed (entered ms (child (address_at old at) n)) ∷ [])
  pub goes : (ms : List Named) → IsTreeOf old ms → misfit ms (table_at line Passed (entered ms (child (address_at old at) n)) ∷ []) ≡ None
  pub address : (ms : List Named) → IsTreeOf old ms → address_at new id ≡ entered ms (child (address_at old at) n)
