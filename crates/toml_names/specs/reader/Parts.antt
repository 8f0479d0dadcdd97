-- The parts of a text's data, by their numbers: what stands at a part and below it, and which parts lie right below it.
use Rattle.std.specs.Prelude.{◌≡◌, ◌<◌, ℕ, List, [], ◌∷◌, length, map, Contains, Some, IsSome, slice_get, slice_index_or}
use Rattle.std.specs.Cmp.Lexicographic.{slice_cmp}
use Rattle.std.specs.List.Sorted.{IsStrictlySortedBy}
use Rattle.std.specs.Map.{keys_of}
use Rattle.std.specs.Ordering.{nat_cmp}
use denote.Ref.{Bor}
use Rattle.toml_scalar.specs.Values.{scalar_value}
use Rattle.toml_names.specs.declared.model.address.Step.TheVariants.{Name, Index}
use Rattle.toml_names.specs.declared.tree.parts.Shape.{Shape}
use Rattle.toml_names.specs.declared.tree.parts.Shape.TheVariants as shapes
use Rattle.toml_tree.specs.declared.profile.Profile.{Profile}
use Rattle.toml_names.specs.mentions.FirstMentions.{first_mentions}
use Rattle.toml_names.specs.mentions.Mentions.{Kind, a_table, an_array, a_scalar, named}
use Rattle.toml_names.specs.model.Addresses.{Address}
use Rattle.toml_names.specs.model.Data.{IsDataOf, Kinds}
use Rattle.toml_names.specs.reader.Texts.{GoodText}
use Rattle.toml_names.specs.tree.Held.{below_in, below_node}
use Rattle.toml_names.specs.tree.NameTree.{IsTreeOf}
use Rattle.toml_names.specs.tree.Nodes.{Spot}

-- there is a part with this number
abbrev pub IsPart : List Spot → ℕ → Type 0
IsPart parts id = id < length parts

-- what stands at the part, and at each address below it
abbrev pub part_kinds : List Spot → ℕ → Kinds
part_kinds = below_node

-- the list has what a document of the profile mentions, each address once, in the order of their first mentions, and the parts are
-- those of its data
pub record TellMentions (profile : Profile) (text : List ℕ) (list : List Address) (parts : List Spot) : Type 0 where
  pub it : GoodText profile text
  pub mentions : list ≡ first_mentions (named it.lines)
  pub kinds : IsDataOf (named it.lines) (part_kinds parts 0)

-- the parts stand for what the lines of a document of the profile name: they are those of its data
pub record StandForNames (profile : Profile) (text : List ℕ) (parts : List Spot) : Type 0 where
  pub it : GoodText profile text
  pub kinds : IsDataOf (named it.lines) (part_kinds parts 0)
  pub names : IsTreeOf parts (named it.lines)

-- the part is there, and its number is greater
pub record IsBelow (parts : List Spot) (id below : ℕ) : Type 0 where
  pub later : id < below
  pub part : IsPart parts below

-- the kind that a shape tells
abbrev pub shape_kind : Shape → Kind
shape_kind shapes.Table = a_table
shape_kind shapes.Array = an_array
shape_kind (shapes.Scalar s) = a_scalar (scalar_value s)

-- the items are the parts at the indices of a part, in order, and nothing stands at any other index
pub record AreItems (parts : List Spot) (id : ℕ) (items : List ℕ) : Type 0 where
  pub each : (i : ℕ) (at : Address) → part_kinds parts id (Index i ∷ at) ≡ below_in parts (slice_get items i) at
  pub below : (i d : ℕ) → i < length items → IsBelow parts id (slice_index_or items i d)

-- names and parts, by the names' bytes
abbrev pub plain_members : List (Bor (List ℕ) × ℕ) → List (List ℕ × ℕ)
plain_members = map (λ e. (e.0.now, e.1))

-- the members are the parts at the names of a part, in the order of the names' bytes, and nothing stands at any other name
pub record AreMembers (parts : List Spot) (id : ℕ) (members : List (List ℕ × ℕ)) : Type 0 where
  pub each : (i : ℕ) (e : List ℕ × ℕ) → slice_get members i ≡ Some e → (at : Address) → part_kinds parts id (Name e.0 ∷ at) ≡ part_kinds parts e.1 at
  pub below : (i : ℕ) (e : List ℕ × ℕ) → slice_get members i ≡ Some e → IsBelow parts id e.1
  pub all : (n : List ℕ) → IsSome (part_kinds parts id (Name n ∷ [])) → Contains (keys_of members) n
  pub ascending : IsStrictlySortedBy (slice_cmp nat_cmp) (keys_of members)
