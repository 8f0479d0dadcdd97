-- How what is named joins what was named before it: each thing is new, at a place that is free, or is a table or an array of tables that
-- is there already.
use Rattle.std.specs.Prelude.{◌≡◌, ◌⊎◌, ◌<◌, ℕ, Bool, true, false, List, [], ◌∷◌, ◌++◌, All, AllPairs, IsSome, Some, None}
use Rattle.toml_tree.specs.Tree.{Value, Line}
use Rattle.toml_names.specs.declared.model.address.Step.{Step}
use Rattle.toml_names.specs.declared.model.address.Step.TheVariants.{Name, Index}
use Rattle.toml_names.specs.declared.mentions.mention.Role.{Role}
use Rattle.toml_names.specs.declared.mentions.mention.Role.TheVariants.{Valued, Bare}
use Rattle.toml_names.specs.model.Addresses.{Address, element}
use Rattle.toml_names.specs.model.Data.{Kinds, IsFact, IsDataOf, fact_at}
use Rattle.toml_names.specs.mentions.Mentions.{Kind, a_table, an_array, Named, named, value_facts}
use Rattle.toml_names.specs.mentions.Rules.{KeepsRules}

-- a step that may be added to what stands at the address: a name to a table, or the next index to an array
abbrev pub IsNext : Kinds → Address → Step → Type 0
IsNext kinds at (Name n) = kinds at ≡ Some a_table
IsNext kinds at (Index i) = (kinds at ≡ Some an_array) × ((j : ℕ) → j < i → IsSome (kinds (element at j)))

-- nothing stands at the address, and something may be put there
pub record IsFree (kinds : Kinds) (at : Address) : Type 0 where
  pub parent : Address
  pub last : Step
  pub is : at ≡ parent ++ last ∷ []
  pub absent : kinds at ≡ None
  pub next : IsNext kinds parent last

-- something stands at the address, or may be put there
abbrev pub IsOpen : Kinds → Address → Type 0
IsOpen kinds at = IsSome (kinds at) ⊎ IsFree kinds at

-- what is never named twice: a key's value, an element of an array in a value, the root
abbrev pub is_lone : Role → Bool
is_lone Valued = true
is_lone Bare = true
is_lone _ = false

-- a table or an array of tables that is named again
pub record IsAgain (earlier : List Named) (m : Named) : Type 0 where
  pub there : fact_at earlier m.address ≡ Some m.kind
  pub shared : is_lone m.role ≡ false
  pub others : All (λ e. e.address ≡ m.address → is_lone e.role ≡ false) earlier

abbrev pub Joins : List Named → Named → Type 0
Joins earlier m = IsFree (fact_at earlier) m.address ⊎ IsAgain earlier m

-- each of the new ones joins those before it
abbrev pub JoinAll : List Named → List Named → Type 0
JoinAll earlier [] = Unit {0}
JoinAll earlier (m ∷ ms) = Joins earlier m × JoinAll (earlier ++ m ∷ []) ms

-- each joins those before it, the first aside
abbrev pub Joined : List Named → Type 0
Joined [] = Unit {0}
Joined (m ∷ ms) = JoinAll (m ∷ []) ms

-- all that is named at one address is of one kind
abbrev pub HasOneKind : List Named → Type 0
HasOneKind ms = (at : Address) (k l : Kind) → IsFact ms at k → IsFact ms at l → k ≡ l

-- the addresses of values and of elements in values are pairwise distinct, and distinct from those of tables and arrays of tables
abbrev pub AreAlone : List Named → Type 0
AreAlone ms = AllPairs (λ e l. e.address ≡ l.address → (is_lone e.role ≡ false) × (is_lone l.role ≡ false)) ms

-- Laws. Under the rules each thing named joins those before it;
abbrev pub LinesJoin : Type 0
LinesJoin = (lines : List Line) → KeepsRules (named lines) → Joined (named lines)

abbrev pub ValuesJoin : Type 0
ValuesJoin = (v : Value) → KeepsRules (value_facts v) → Joined (value_facts v)

-- so what is named at one address is of one kind,
abbrev pub OneKind : Type 0
OneKind = (ms : List Named) → Joined ms → HasOneKind ms

-- the first kind named at each address is the data,
abbrev pub FirstIsData : Type 0
FirstIsData = (ms : List Named) → Joined ms → IsDataOf ms (fact_at ms)

-- and values and elements in values stand alone.
abbrev pub ValuesStandAlone : Type 0
ValuesStandAlone = (ms : List Named) → Joined ms → AreAlone ms
