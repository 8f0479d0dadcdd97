-- Data as a finite tree.
use Rattle.std.specs.Prelude.{◌≡◌, ◌+◌, ℕ, List, [], ◌∷◌, Contains, IsSome, Some, None}
use Rattle.std.specs.Cmp.Lexicographic.{slice_cmp}
use Rattle.std.specs.List.Sorted.{IsStrictlySortedBy}
use Rattle.std.specs.Ordering.{nat_cmp}
use Rattle.toml_scalar.specs.Values.{ScalarValue}
use Rattle.toml_names.specs.declared.model.address.Step.TheVariants.{Name, Index}
use Rattle.toml_names.specs.mentions.Mentions.{a_table, an_array, a_scalar}
use Rattle.toml_names.specs.model.Data.{Kinds}
use Rattle.toml_print.specs.Tagged.{part}

-- a scalar, an array's elements, or a table's members
mutual
  pub data Tree : Type 0 where
    scalar : ScalarValue → Tree
    array : Items → Tree
    table : Members → Tree

  pub data Items : Type 0 where
    no_items : Items
    item : Tree → Items → Items

  pub data Members : Type 0 where
    no_members : Members
    member : List ℕ → Tree → Members → Members

abbrev pub names : Members → List (List ℕ)
names no_members = []
names (member n t ms) = n ∷ names ms

-- the names are those where something stands, each once, and they ascend by their bytes
pub record AreNames (f : Kinds) (ns : List (List ℕ)) : Type 0 where
  pub each : (n : List ℕ) → IsSome (f (Name n ∷ [])) → Contains ns n
  pub ascending : IsStrictlySortedBy (slice_cmp nat_cmp) ns

abbrev mutual
  -- The tree has the data, and nothing else: an array's elements in order, a table's members in the order of their names' bytes.
  pub IsTreeOf : Kinds → Tree → Type 0
  IsTreeOf f (scalar v) = f [] ≡ Some (a_scalar v)
  IsTreeOf f (array ts) = (f [] ≡ Some an_array) × AreItems f 0 ts
  IsTreeOf f (table ms) = (f [] ≡ Some a_table) × AreMembers f ms × AreNames f (names ms)

  -- each element stands at its index, from one index on, and nothing stands behind the last
  pub AreItems : Kinds → ℕ → Items → Type 0
  AreItems f i no_items = f (Index i ∷ []) ≡ None
  AreItems f i (item t ts) = IsTreeOf (part f (Index i)) t × AreItems f (i + 1) ts

  -- each member stands at its name
  pub AreMembers : Kinds → Members → Type 0
  AreMembers f no_members = Unit {0}
  AreMembers f (member n t ms) = IsTreeOf (part f (Name n)) t × AreMembers f ms
