-- What a datum has at each address, level by level.
use Rattle.std.specs.Prelude.{◌≡◌, ◌⊎◌, ◌<◌, ℕ, List, [], ◌∷◌, length, map, Some, None, IsSome, String, Vec, slice_get}
use Rattle.std.specs.BTreeMap.{BTreeMap, get_by_text}
use Rattle.std.specs.declared.alloc.Global.{Global}
use Rattle.toml_scalar.specs.declared.scalar.Scalar.{Scalar as Token}
use Rattle.toml_scalar.specs.Values.{scalar_value}
use Rattle.toml_names.specs.declared.model.address.Step.{Step}
use Rattle.toml_names.specs.declared.model.address.Step.TheVariants.{Name, Index}
use Rattle.toml_names.specs.declared.model.datum.Datum.{Datum, Scalar, Array, Table}
use Rattle.toml_names.specs.model.Addresses.{Address}
use Rattle.toml_names.specs.model.Data.{kind_at, kind_in, in_scalar, in_array, in_table}
use Rattle.toml_names.specs.mentions.Mentions.{a_table, an_array}

-- the elements of an array
abbrev pub Elements : Type 0
Elements = Vec Datum Global

-- the members of a table
abbrev pub Members : Type 0
Members = BTreeMap (String Global) Datum

-- Laws: what a scalar, an array and a table have, each part being seen as its map;
abbrev pub ScalarLevel : Type 0
ScalarLevel = (s : Token) → kind_at (Scalar s) ≡ in_scalar (scalar_value s)

abbrev pub ArrayLevel : Type 0
ArrayLevel = (v : Elements) → kind_at (Array v) ≡ in_array (map kind_at v.items)

abbrev pub TableLevel : Type 0
TableLevel = (m : Members) → kind_at (Table m) ≡ in_table (map (λ e. (e.0, kind_at e.1)) m.entries)

-- a datum is a scalar, an array or a table,
abbrev pub DatumIsOneOfThree : Type 0
DatumIsOneOfThree = (d : Datum) → ((s : Token) × (d ≡ Scalar s)) ⊎ (((v : Elements) × (d ≡ Array v)) ⊎ ((m : Members) × (d ≡ Table m)))

-- and something stands at its root.
abbrev pub DatumHasRoot : Type 0
DatumHasRoot = (d : Datum) → IsSome (kind_at d [])

-- Of an array: it stands at the root, each element at its index, and nothing at a name; an index where something stands is below the length.
abbrev pub ArrayAtRoot : Type 0
ArrayAtRoot = (v : Elements) → kind_at (Array v) [] ≡ Some an_array

abbrev pub ArrayAtIndex : Type 0
ArrayAtIndex = (v : Elements) (i : ℕ) (at : Address) → kind_at (Array v) (Index i ∷ at) ≡ kind_in (slice_get v.items i) at

abbrev pub ArrayAtName : Type 0
ArrayAtName = (v : Elements) (n : List ℕ) (at : Address) → kind_at (Array v) (Name n ∷ at) ≡ None

abbrev pub IndexIsWithin : Type 0
IndexIsWithin = (v : Elements) (i : ℕ) → IsSome (kind_at (Array v) (Index i ∷ [])) → i < length v.items

-- Of a table: it stands at the root, each member at its name, and nothing at an index; a name where something stands has a member.
abbrev pub TableAtRoot : Type 0
TableAtRoot = (m : Members) → kind_at (Table m) [] ≡ Some a_table

abbrev pub TableAtName : Type 0
TableAtName = (m : Members) (n : List ℕ) (at : Address) → kind_at (Table m) (Name n ∷ at) ≡ kind_in (get_by_text m n) at

abbrev pub TableAtIndex : Type 0
TableAtIndex = (m : Members) (i : ℕ) (at : Address) → kind_at (Table m) (Index i ∷ at) ≡ None

abbrev pub NameHasMember : Type 0
NameHasMember = (m : Members) (n : List ℕ) → IsSome (kind_at (Table m) (Name n ∷ [])) → IsSome (get_by_text m n)

-- Of a scalar: nothing stands below it.
abbrev pub NothingBelowScalar : Type 0
NothingBelowScalar = (s : Token) (step : Step) (at : Address) → kind_at (Scalar s) (step ∷ at) ≡ None
