-- What holds of all that was named so far, and goes on holding when one more thing joins; what a role says of the kind and of the address.
use Rattle.toml_names.proofs.Common.{common_steps, ◌≡◌, ℕ, ◌<◌, ◌≤◌, true, false, List, [], ◌∷◌, ◌++◌, All, Some, None, sym, ◌∙◌, arith, rules, All-push, Step, Name, Bare, Address, child, element, fact_at, IsFree, is_lone, Joins, a_table, Named, is_tables, count_tables, fits, Option, same_Some, Role, Passed, Header, Dotted, Valued, Tables, Element, Kind, an_array, may_follow}
use Rattle.toml_names.proofs.lemmas.mentions.Counting.{count_plain}
use Rattle.toml_names.proofs.lemmas.mentions.FactAt.{from_all, found, fact_kept, fact_other, none_before}
use Rattle.toml_names.proofs.lemmas.model.Equal.{child_is_no_element}
use Rattle.toml_names.proofs.lemmas.mentions.OfOneKind.{AreOfOneKind, AreOfOneKind-push}
use Rattle.toml_names.proofs.lemmas.mentions.Offences.{Goes, at_each}

-- the one kind that goes with a role
abbrev pub role_kind : Role → Option Kind
role_kind Passed = Some a_table
role_kind Header = Some a_table
role_kind Dotted = Some a_table
role_kind Tables = Some an_array
role_kind Element = Some a_table
role_kind Valued = None
role_kind Bare = None

-- The kind is its role's, and what is no mention has no name in a table.
pub record IsSuited (m : Named) : Type 0 where
  pub kind : (k : Kind) → role_kind m.role ≡ Some k → m.kind ≡ k
  pub bare : m.role ≡ Bare → (at : Address) (n : List ℕ) → ¬ (m.address ≡ child at n)

pub suited_mention : (m : Named) → role_kind m.role ≡ Some m.kind → ¬ (m.role ≡ Bare) → IsSuited m
suited_mention m is mention = record { kind = λ k h. same_Some m.kind k (sym is ∙ h); bare = λ bare. absurd (mention bare) }

pub record AreShared (e m : Role) : Type 0 where
  pub earlier : is_lone e ≡ false
  pub later : is_lone m ≡ false
  pub kind : role_kind e ≡ role_kind m

pub shared_roles : (e m : Role) → may_follow e m ≡ true → ¬ (e ≡ Bare) → ¬ (m ≡ Bare) → AreShared e m
shared_roles e m h e_is m_is = search rules

-- nothing but an array of tables goes before an array of tables
pub tables_before : (e : Role) → may_follow e Tables ≡ true → ¬ (e ≡ Bare) → e ≡ Tables
tables_before e h e_is = search rules

-- two that share are of one kind
pub shared_kind : (e m : Named) → IsSuited e → IsSuited m → AreShared e.role m.role → e.kind ≡ m.kind
shared_kind e m e_suited m_suited roles = search rules

-- nothing lone stands at the address
abbrev pub NoneLone : List Named → Address → Type 0
NoneLone ms at = All (λ e. e.address ≡ at → is_lone e.role ≡ false) ms

-- the tables of an array of tables are there, up to their count
pub record AreCounted (ms : List Named) : Type 0 where
  pub there : (at : Address) (j : ℕ) → j < count_tables ms at → fact_at ms (element at j) ≡ Some a_table
  pub shared : (at : Address) (j : ℕ) → j < count_tables ms at → NoneLone ms (element at j)
  pub ends : (at : Address) (j : ℕ) → 0 < count_tables ms at → count_tables ms at ≤ j → fact_at ms (element at j) ≡ None

-- below what is not there nothing is
abbrev pub IsClosed : List Named → Type 0
IsClosed ms = (at : Address) (s : Step) → fact_at ms at ≡ None → fact_at ms (at ++ s ∷ []) ≡ None

pub record IsGrown (ms : List Named) : Type 0 where
  pub suited : All IsSuited ms
  pub kinds : AreOfOneKind ms
  pub closed : IsClosed ms
  pub counted : AreCounted ms

pub IsClosed-push : (ms : List Named) (m : Named) → IsClosed ms → Joins ms m → IsClosed (ms ++ m ∷ [])
IsClosed-push ms m closed joins = grind (arith, common_steps, none_before, fact_other)

-- a thing that is new is no element of an array of tables
abbrev pub IsApart : List Named → Named → Type 0
IsApart ms m = (at : Address) (j : ℕ) → m.address ≡ element at j → fact_at ms m.address ≡ None → count_tables ms at ≡ 0

AreCounted-push : (ms : List Named) (m : Named) → AreCounted ms → Joins ms m → is_tables m.role ≡ false → IsApart ms m → AreCounted (ms ++ m ∷ [])
AreCounted-push ms m counted joins plain apart = grind (arith, common_steps, fact_kept, count_plain, All-push, fact_other)

pub IsGrown-push : (ms : List Named) (m : Named) → IsGrown ms → Joins ms m → IsSuited m → is_tables m.role ≡ false → IsApart ms m → IsGrown (ms ++ m ∷ [])
IsGrown-push ms m grown joins suited plain apart = search (rules, All-push, AreOfOneKind-push, IsClosed-push, AreCounted-push)

pub apart_at_name : (ms : List Named) (m : Named) (at : Address) (n : List ℕ) → m.address ≡ child at n → IsApart ms m
apart_at_name ms m at n is q j same = absurd (child_is_no_element at q n j (sym is ∙ same))

-- What has a name in a table that is there joins, where the rules let it.
module _ (ms : List Named) (m : Named) (at : Address) (n : List ℕ) (grown : IsGrown ms) (suited : IsSuited m) (mention : ¬ (m.role ≡ Bare))
    (good : fits ms m ≡ true) (is : m.address ≡ child at n) (table : fact_at ms at ≡ Some a_table) where
  shares_with : (e : Named) → IsSuited e → Goes e m → e.address ≡ m.address → AreShared e.role m.role
  shares_with e e_suited goes same = shared_roles e.role m.role (goes same) (λ bare. e_suited.bare bare at n (same ∙ is)) mention

  free_at : fact_at ms m.address ≡ None → IsFree (fact_at ms) m.address
  free_at none = record { parent = at; last = Name n; is = is; absent = none; next = table }

  pub joins_at_name : Joins ms m
  joins_at_name = search (rules, free_at, from_all, at_each, found, shares_with, shared_kind)

  -- a value stands alone there
  pub free_at_name : is_lone m.role ≡ true → IsFree (fact_at ms) m.address
  free_at_name lone = search (rules, joins_at_name)
