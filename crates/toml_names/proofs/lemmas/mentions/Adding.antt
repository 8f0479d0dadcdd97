-- Several things that join one after the other, under the rules.
use Rattle.toml_names.proofs.Common.{◌≡◌, true, false, ℕ, List, [], ◌∷◌, ◌++◌, Some, None, refl, sym, ap, ◌∙◌, subst, rules, append_assoc, append-nil, Bare, Address, child, fact_at, Joins, JoinAll, a_table, Named, is_tables, count_tables, fits, misfit}
use Rattle.toml_names.proofs.lemmas.mentions.Counting.{count_plain}
use Rattle.toml_names.proofs.lemmas.mentions.Growing.{IsGrown, IsApart, IsGrown-push, joins_at_name, apart_at_name, IsSuited}
use Rattle.toml_names.proofs.lemmas.mentions.Offences.{misfit-later, fits-from_misfit}
use Rattle.toml_names.proofs.lemmas.mentions.FactAt.{fact_other}

pub after_first : (ms more : List Named) (m : Named) → misfit ms (m ∷ more) ≡ None → misfit (ms ++ m ∷ []) more ≡ None
after_first ms more m none = sym (misfit-later ms more m (fits-from_misfit ms more m none)) ∙ none

misfit_front : (xs ys ms : List Named) → misfit ms (xs ++ ys) ≡ None → misfit ms xs ≡ None
misfit_front [] ys ms none = refl
misfit_front (x ∷ xs) ys ms none = search (rules, misfit-later, fits-from_misfit, after_first, misfit_front xs ys (ms ++ x ∷ []) (after_first ms (xs ++ ys) x none))

misfit_behind : (xs ys ms : List Named) → misfit ms (xs ++ ys) ≡ None → misfit (ms ++ xs) ys ≡ None
misfit_behind [] ys ms none = subst (λ l. misfit l ys ≡ None) (sym (append-nil ms)) none
misfit_behind (x ∷ xs) ys ms none = search (rules, append_assoc, after_first, misfit_behind xs ys (ms ++ x ∷ []) (after_first ms (xs ++ ys) x none))

JoinAll-append : (xs ys ms : List Named) → JoinAll ms xs → JoinAll (ms ++ xs) ys → JoinAll ms (xs ++ ys)
JoinAll-append [] ys ms first then = subst (λ l. JoinAll l ys) (append-nil ms) then
JoinAll-append (x ∷ xs) ys ms first then =
    (first.0, JoinAll-append xs ys (ms ++ x ∷ []) first.1 (subst (λ l. JoinAll l ys) (sym (append_assoc ms (x ∷ []) xs)) then))

-- all of them join
pub record IsAdded (ms new : List Named) : Type 0 where
  pub joins : JoinAll ms new
  pub grown : IsGrown (ms ++ new)

-- all of them join, none is an array of tables, and nothing is put at the addresses K
pub record IsPut (K : Address → Type 0) (ms new : List Named) : Type 0 where
  pub added : IsAdded ms new
  pub kept : (at : Address) → K at → fact_at (ms ++ new) at ≡ fact_at ms at
  pub counts : (at : Address) → count_tables (ms ++ new) at ≡ count_tables ms at

-- under the rules
abbrev pub Adds : List Named → List Named → Type 0
Adds ms new = misfit ms new ≡ None → IsAdded ms new

abbrev pub Puts : (Address → Type 0) → List Named → List Named → Type 0
Puts K ms new = misfit ms new ≡ None → IsPut K ms new

pub IsAdded-nil : (ms : List Named) → IsGrown ms → IsAdded ms []
IsAdded-nil ms grown = record { joins = tt; grown = subst IsGrown (sym (append-nil ms)) grown }

IsAdded-append : (ms xs ys : List Named) → IsAdded ms xs → IsAdded (ms ++ xs) ys → IsAdded ms (xs ++ ys)
IsAdded-append ms xs ys first then = search (rules, JoinAll-append, append_assoc)

pub Adds-append : (ms xs ys : List Named) → Adds ms xs → (IsAdded ms xs → Adds (ms ++ xs) ys) → Adds ms (xs ++ ys)
Adds-append ms xs ys first then = search (rules, misfit_front, IsAdded-append, misfit_behind)

pub IsPut-nil : (K : Address → Type 0) (ms : List Named) → IsGrown ms → IsPut K ms []
IsPut-nil K ms grown = search rules

-- nothing is put at fewer addresses
pub IsPut-fewer : (K L : Address → Type 0) (ms new : List Named) → ((at : Address) → K at → L at) → IsPut L ms new → IsPut K ms new
IsPut-fewer K L ms new fewer put = record { added = put.added; kept = λ at k. put.kept at (fewer at k); counts = put.counts }

IsPut-append : (K : Address → Type 0) (ms xs ys : List Named) → IsPut K ms xs → IsPut K (ms ++ xs) ys → IsPut K ms (xs ++ ys)
IsPut-append K ms xs ys front back = record {
  added = IsAdded-append ms xs ys front.added back.added;
  kept = λ at k. ap (λ l. fact_at l at) (sym (append_assoc ms xs ys)) ∙ back.kept at k ∙ front.kept at k;
  counts = λ at. ap (λ l. count_tables l at) (sym (append_assoc ms xs ys)) ∙ back.counts at ∙ front.counts at;
}

-- the first ones, of which more may be known, and then the others
pub Puts-append : (K L : Address → Type 0) (ms xs ys : List Named) → ((at : Address) → K at → L at) → Puts L ms xs → (IsPut L ms xs → Puts K (ms ++ xs) ys) → Puts K ms (xs ++ ys)
Puts-append K L ms xs ys fewer first then none =
    let front = first (misfit_front xs ys ms none) in
    IsPut-append K ms xs ys (IsPut-fewer K L ms xs fewer front) (then front (misfit_behind xs ys ms none))

pub IsAdded-one : (ms : List Named) (m : Named) → IsGrown ms → Joins ms m → IsSuited m → is_tables m.role ≡ false → IsApart ms m → IsAdded ms (m ∷ [])
IsAdded-one ms m grown joins suited plain apart = search (rules, IsGrown-push)

-- a mention of a name in a table
pub IsAdded-name : (ms : List Named) (m : Named) (at : Address) (n : List ℕ) → IsGrown ms → IsSuited m → ¬ (m.role ≡ Bare) → is_tables m.role ≡ false
    → fits ms m ≡ true → m.address ≡ child at n → fact_at ms at ≡ Some a_table → IsAdded ms (m ∷ [])
IsAdded-name ms m at n grown suited mention plain good is table = search (rules, IsAdded-one, joins_at_name, apart_at_name)

pub IsPut-one : (K : Address → Type 0) (ms : List Named) (m : Named) → IsAdded ms (m ∷ []) → is_tables m.role ≡ false → ((at : Address) → K at → ¬ (m.address ≡ at)) → IsPut K ms (m ∷ [])
IsPut-one K ms m added plain elsewhere = search (rules, fact_other, count_plain)
