-- Data: the finite map from addresses to kinds, of a `Datum` and of what lines name.
use Rattle.std.specs.Prelude.{◌≡◌, ◌↔◌, List, [], ◌∷◌, ◌++◌, Any, Option, Some, None, if◌then◌else◌, slice_get, String, string_bytes}
use Rattle.std.specs.BTreeMap.{is_at}
use Rattle.std.specs.Cmp.Lexicographic.{slice_cmp}
use Rattle.std.specs.Map.{lookup}
use Rattle.std.specs.Ordering.{nat_cmp}
use Rattle.std.specs.declared.alloc.Global.{Global}
use Rattle.toml_scalar.specs.Values.{ScalarValue, scalar_value}
use Rattle.toml_names.specs.declared.model.address.Step.{Step}
use Rattle.toml_names.specs.declared.model.address.Step.TheVariants.{Name, Index}
use Rattle.toml_names.specs.declared.model.datum.Datum.{Datum, fold-Datum}
use Rattle.toml_names.specs.declared.model.datum.Datum.TheOpen.{Datum-F}
use Rattle.toml_names.specs.model.Addresses.{Address, same_address}
use Rattle.toml_names.specs.mentions.Mentions.{Kind, a_table, an_array, a_scalar, Named}

-- what stands at each address; none where nothing does
abbrev pub Kinds : Type 0
Kinds = Address → Option Kind

-- in a part that may not be there
abbrev pub within : Option Kinds → Kinds
within None at = None
within (Some part) at = part at

abbrev pub in_scalar : ScalarValue → Kinds
in_scalar v [] = Some (a_scalar v)
in_scalar v (s ∷ at) = None

abbrev pub in_array : List Kinds → Kinds
in_array parts [] = Some an_array
in_array parts (Index i ∷ at) = within (slice_get parts i) at
in_array parts (Name n ∷ at) = None

abbrev pub in_table : List (String Global × Kinds) → Kinds
in_table parts [] = Some a_table
in_table parts (Name n ∷ at) = within (lookup (is_at (λ k. slice_cmp nat_cmp n (string_bytes k))) parts) at
in_table parts (Index i ∷ at) = None

-- one level, each part being seen as its map already
abbrev pub kinds_step : Datum-F Kinds → Kinds
kinds_step (Datum-F.Scalar s) = in_scalar (scalar_value s)
kinds_step (Datum-F.Array v) = in_array v.items
kinds_step (Datum-F.Table m) = in_table m.entries

-- what a datum has at each address
abbrev pub kind_at : Datum → Kinds
kind_at = fold-Datum Kinds kinds_step

-- what a part that may not be there has
abbrev pub kind_in : Option Datum → Kinds
kind_in None at = None
kind_in (Some d) at = kind_at d at

-- something named stands at the address and is of the kind
abbrev pub IsFact : List Named → Address → Kind → Type 0
IsFact ms at k = Any (λ m. (m.address ≡ at) × (m.kind ≡ k)) ms

-- the map is the data of what is named: it has at each address the kind of what is named there, and nothing elsewhere
abbrev pub IsDataOf : List Named → Kinds → Type 0
IsDataOf ms kinds = (at : Address) (k : Kind) → (kinds at ≡ Some k) ↔ IsFact ms at k

-- where nothing stands, nothing stands below
abbrev pub IsClosed : Kinds → Type 0
IsClosed kinds = (at : Address) (s : Step) → kinds at ≡ None → kinds (at ++ s ∷ []) ≡ None

-- the plain function: the kind of the first thing named at the address
abbrev pub fact_at : List Named → Kinds
fact_at [] at = None
fact_at (m ∷ ms) at = if same_address m.address at then Some m.kind else fact_at ms at
