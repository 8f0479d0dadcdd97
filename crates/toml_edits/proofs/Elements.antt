-- What an array or a table has where an element or a member comes, goes or changes its name.
use Rattle.std.proofs.Common.{◌≡◌, ℕ, zero, suc, ◌+◌, ◌-◌, ◌<◌, ◌≤◌, Bool, true, false, cond, add-one, List, [], ◌∷◌, length, Option, Some, None, IsSome, String, Vec, BTreeMap, Global, bytes_eq, refl, sym, ap, ◌∙◌, arith}
use Rattle.std.proofs.lemmas.Bool.Decides.{nat_tests}
use Rattle.std.specs.Bool.{nat_eq, nat_lt}
use Rattle.std.specs.BTreeMap.{get_by_text}
use Rattle.std.specs.List.{insert as inserted, remove as removed}
use Rattle.std.specs.Prelude.{slice_get}
use Rattle.toml_names.specs.declared.model.address.Step.TheVariants.{Name, Index}
use Rattle.toml_names.specs.declared.model.datum.Datum.{Datum, Array, Table}
use Rattle.toml_names.specs.model.Addresses.{Address}
use Rattle.toml_names.specs.model.Data.{kind_at, kind_in}
use Rattle.toml_names.proofs.Proved.{array-within, array-here, array-item, array-name, table-here, table-member, table-index, has_kind}
use Rattle.toml_edits.specs.Changed.{below, shifted_in, shifted_out, renamed}

one_of : (b : Bool) (o r : Option Datum) (at : Address) → kind_in (cond b o r) at ≡ cond b (kind_in o at) (kind_in r at)
one_of true o r at = refl
one_of false o r at = refl

-- ---- an element more

pub get_below : {X : Type 0} (xs : List X) (i j : ℕ) (x : X) → j < i → i ≤ length xs → slice_get (inserted xs i x) j ≡ slice_get xs j
get_below [] i j x h l = absurd (omega arith)
get_below (y ∷ xs) zero j x h l = absurd (omega arith)
get_below (y ∷ xs) (suc i) zero x h l = refl
get_below (y ∷ xs) (suc i) (suc j) x h l = get_below xs i j x (omega arith) (omega arith)

pub get_at : {X : Type 0} (xs : List X) (i : ℕ) (x : X) → i ≤ length xs → slice_get (inserted xs i x) i ≡ Some x
get_at xs zero x l = refl
get_at [] (suc i) x l = absurd (omega arith)
get_at (y ∷ xs) (suc i) x l = get_at xs i x (omega arith)

pub get_above : {X : Type 0} (xs : List X) (i j : ℕ) (x : X) → i ≤ j → i ≤ length xs → slice_get (inserted xs i x) (suc j) ≡ slice_get xs j
get_above xs zero j x h l = refl
get_above [] (suc i) j x h l = absurd (omega arith)
get_above (y ∷ xs) (suc i) zero x h l = absurd (omega arith)
get_above (y ∷ xs) (suc i) (suc j) x h l = get_above xs i j x (omega arith) (omega arith)

added_at : (v : Vec Datum Global) (i j : ℕ) (d : Datum) → i ≤ length v.items → (at : Address) (b c : Bool) → nat_lt j i ≡ b → nat_eq j i ≡ c
    → kind_in (slice_get (inserted v.items i d) j) at ≡ cond b (kind_at (Array v) (Index j ∷ at)) (cond c (kind_at d at) (kind_at (Array v) (Index (j - 1) ∷ at)))
added_at v i j d h at true c is eq = let lt : j < i = grind (arith, nat_tests) in ap (λ (o : Option Datum). kind_in o at) (get_below v.items i j d lt h) ∙ sym (array-item v j at)
added_at v i j d h at false true is eq = let same : j ≡ i = grind (arith, nat_tests) in rw same (ap (λ (o : Option Datum). kind_in o at) (get_at v.items i d h))
added_at v i zero d h at false false is eq = absurd (grind (arith, nat_tests))
added_at v i (suc j) d h at false false is eq =
    let le : i ≤ j = grind (arith, nat_tests) in
    ap (λ (o : Option Datum). kind_in o at) (get_above v.items i j d le h) ∙ sym (array-item v j at) ∙ ap (λ k. kind_at (Array v) (Index k ∷ at)) (omega arith)

pub array-added : (v w : Vec Datum Global) (i : ℕ) (d : Datum) → w.items ≡ inserted v.items i d → i ≤ length v.items → (at : Address) → kind_at (Array w) at ≡ shifted_in i (kind_at d) (kind_at (Array v)) at
array-added v w i d is h [] = array-here w ∙ sym (array-here v)
array-added v w i d is h (Name n ∷ at) = array-name w n at ∙ sym (array-name v n at)
array-added v w i d is h (Index j ∷ at) = array-item w j at ∙ ap (λ (ds : List Datum). kind_in (slice_get ds j) at) is ∙ added_at v i j d h at (nat_lt j i) (nat_eq j i) refl refl

-- ---- an element less

at_empty : {X : Type 0} (i j : ℕ) → slice_get (removed {X = X} [] i) j ≡ None
at_empty zero j = refl
at_empty (suc i) j = refl

pub get_kept : {X : Type 0} (xs : List X) (i j : ℕ) → j < i → slice_get (removed xs i) j ≡ slice_get xs j
get_kept [] i j h = at_empty i j
get_kept (y ∷ xs) zero j h = absurd (omega arith)
get_kept (y ∷ xs) (suc i) zero h = refl
get_kept (y ∷ xs) (suc i) (suc j) h = get_kept xs i j (omega arith)

pub get_down : {X : Type 0} (xs : List X) (i j : ℕ) → i ≤ j → slice_get (removed xs i) j ≡ slice_get xs (suc j)
get_down [] i j h = at_empty i j
get_down (y ∷ xs) zero j h = refl
get_down (y ∷ xs) (suc i) zero h = absurd (omega arith)
get_down (y ∷ xs) (suc i) (suc j) h = get_down xs i j (omega arith)

removed_at : (v : Vec Datum Global) (i j : ℕ) (at : Address) (b : Bool) → nat_lt j i ≡ b
    → kind_in (slice_get (removed v.items i) j) at ≡ cond b (kind_at (Array v) (Index j ∷ at)) (kind_at (Array v) (Index (j + 1) ∷ at))
removed_at v i j at true is = let lt : j < i = grind (arith, nat_tests) in ap (λ (o : Option Datum). kind_in o at) (get_kept v.items i j lt) ∙ sym (array-item v j at)
removed_at v i j at false is = let le : i ≤ j = grind (arith, nat_tests) in ap (λ (o : Option Datum). kind_in o at) (get_down v.items i j le) ∙ sym (rw add-one (array-item v (suc j) at))

pub array-removed : (v w : Vec Datum Global) (i : ℕ) → w.items ≡ removed v.items i → (at : Address) → kind_at (Array w) at ≡ shifted_out i (kind_at (Array v)) at
array-removed v w i is [] = array-here w ∙ sym (array-here v)
array-removed v w i is (Name n ∷ at) = array-name w n at ∙ sym (array-name v n at)
array-removed v w i is (Index j ∷ at) = array-item w j at ∙ ap (λ (ds : List Datum). kind_in (slice_get ds j) at) is ∙ removed_at v i j at (nat_lt j i) refl

-- an array with each index below this one has so many elements
pub array-filled : (v : Vec Datum Global) (i : ℕ) → ((j : ℕ) → j < i → IsSome (kind_at (Array v) (Index j ∷ []))) → i ≤ length v.items
array-filled v zero each = omega arith
array-filled v (suc i) each = let low : i < length v.items = array-within v i (each i (omega arith)) in omega arith

-- ---- members

pub table-put : (m n : BTreeMap (String Global) Datum) (k : List ℕ) (o : Option Datum) → ((q : List ℕ) → get_by_text n q ≡ cond (bytes_eq k q) o (get_by_text m q))
    → (at : Address) → kind_at (Table n) at ≡ below (Name k ∷ []) (λ part. kind_in o) (kind_at (Table m)) at
table-put m n k o is [] = table-here n ∙ sym (table-here m)
table-put m n k o is (Index i ∷ at) = table-index n i at ∙ sym (table-index m i at)
table-put m n k o is (Name q ∷ at) =
    table-member n q at ∙ ap (λ (r : Option Datum). kind_in r at) (is q) ∙ one_of (bytes_eq k q) o (get_by_text m q) at ∙ ap (cond (bytes_eq k q) (kind_in o at)) (sym (table-member m q at))

pub table-renamed : (m n : BTreeMap (String Global) Datum) (from to : List ℕ) → ((q : List ℕ) → get_by_text n q ≡ cond (bytes_eq to q) (get_by_text m from) (cond (bytes_eq from q) None (get_by_text m q)))
    → (at : Address) → kind_at (Table n) at ≡ renamed from to (kind_at (Table m)) at
table-renamed m n from to is [] = table-here n ∙ sym (table-here m)
table-renamed m n from to is (Index i ∷ at) = table-index n i at ∙ sym (table-index m i at)
table-renamed m n from to is (Name q ∷ at) =
    table-member n q at ∙ ap (λ (r : Option Datum). kind_in r at) (is q) ∙ one_of (bytes_eq to q) (get_by_text m from) _ at
    ∙ ap (cond (bytes_eq to q) (kind_in (get_by_text m from) at)) (one_of (bytes_eq from q) None (get_by_text m q) at)
    ∙ rw (← table-member m from at, ← table-member m q at) refl

lacks : (o : Option Datum) → kind_in o [] ≡ None → o ≡ None
lacks None h = refl
lacks (Some d) h = let some : IsSome (kind_at d []) = has_kind d in absurd (cc)

pub table-lacks : (m : BTreeMap (String Global) Datum) (k : List ℕ) → kind_at (Table m) (Name k ∷ []) ≡ None → get_by_text m k ≡ None
table-lacks m k none = lacks _ (sym (table-member m k []) ∙ none)
