-- What a datum has at each address, level by level.
use Rattle.toml_names.proofs.Common.{◌≡◌, ◌↔◌, ◌⊎◌, inl, inr, ℕ, zero, suc, List, [], ◌∷◌, ◌++◌, map, Option, Some, None, IsSome, is_some, String, Vec, BTreeMap, Global, string_bytes, nat_cmp, cond, Bool, Bor, refl, sym, ap, subst, ◌∙◌, true≢false, rules, append-nil, slice_get_past, slice_get-get_or, slice_get, option_copied, lookup, is_at, slice_cmp, ScalarValue, scalar_value, Name, Index, Datum, Table, the_lemmas, rolls-Scalar, rolls-Array, rolls-Table, Datum-F, roll-Datum, Address, Kinds, kind_at, kind_in, within, Elements, Members, ScalarLevel, ArrayLevel, TableLevel, DatumIsOneOfThree, DatumHasRoot, ArrayAtRoot, ArrayAtIndex, ArrayAtName, TableAtRoot, TableAtName, TableAtIndex, NothingBelowScalar, Kind, a_table, an_array, a_scalar}
use Rattle.std.specs.Slice.{IsGetResult}
use Rattle.toml_scalar.specs.declared.scalar.Scalar.{Scalar as Value}
use Rattle.toml_names.specs.declared.model.datum.Datum.{Scalar, Array}
use Rattle.toml_names.specs.declared.model.datum.Datum.TheFolds.{ind-Datum}

pub kind_at-scalar : ScalarLevel
kind_at-scalar s = search (rules, the_lemmas)

pub kind_at-array : ArrayLevel
kind_at-array v = search (rules, the_lemmas)

pub kind_at-table : TableLevel
kind_at-table m = search (rules, the_lemmas)

pub item_part : (ds : List Datum) (i : ℕ) (at : Address) → within (slice_get (map kind_at ds) i) at ≡ kind_in (slice_get ds i) at
item_part [] i at = refl
item_part (d ∷ ds) zero at = refl
item_part (d ∷ ds) (suc i) at = item_part ds i at

found_part : (b : Bool) (d : Datum) (part : Option Kinds) (o : Option Datum) (at : Address) → within part at ≡ kind_in o at → within (cond b (Some (kind_at d)) part) at ≡ kind_in (cond b (Some d) o) at
found_part b d part o at same = search rules

member_part : (n : List ℕ) (es : List (String Global × Datum)) (at : Address)
    → within (lookup (is_at (λ k. slice_cmp nat_cmp n (string_bytes k))) (map (λ e. (e.0, kind_at e.1)) es)) at ≡ kind_in (lookup (is_at (λ k. slice_cmp nat_cmp n (string_bytes k))) es) at
member_part n [] at = refl
member_part n (e ∷ es) at = found_part _ e.1 _ _ at (member_part n es at)

pub scalar-here : (s : Value) → kind_at (Scalar s) [] ≡ Some (a_scalar (scalar_value s))
scalar-here s = ap (λ (f : Kinds). f []) (kind_at-scalar s)

pub scalar-below : NothingBelowScalar
scalar-below s step at = ap (λ (f : Kinds). f (step ∷ at)) (kind_at-scalar s)

pub array-here : ArrayAtRoot
array-here v = ap (λ (f : Kinds). f []) (kind_at-array v)

pub array-item : ArrayAtIndex
array-item v i at = ap (λ (f : Kinds). f (Index i ∷ at)) (kind_at-array v) ∙ item_part v.items i at

pub array-name : ArrayAtName
array-name v n at = ap (λ (f : Kinds). f (Name n ∷ at)) (kind_at-array v)

pub table-here : TableAtRoot
table-here m = ap (λ (f : Kinds). f []) (kind_at-table m)

pub table-member : TableAtName
table-member m n at = ap (λ (f : Kinds). f (Name n ∷ at)) (kind_at-table m) ∙ member_part n m.entries at

pub table-index : TableAtIndex
table-index m i at = ap (λ (f : Kinds). f (Index i ∷ at)) (kind_at-table m)

-- by cases on a datum
pub by_cases : (P : Datum → Type 0) → ((x : Datum-F Datum) → P (roll-Datum x)) → (d : Datum) → P d
by_cases P f = ind-Datum P (λ x y is. f x)

some_kind : (o : Option Kind) (k : Kind) → o ≡ Some k → IsSome o
some_kind o k is = ap is_some is

rolled_here : (x : Datum-F Datum) → IsSome (kind_at (roll-Datum x) [])
rolled_here (Datum-F.Scalar s) = subst (λ d. IsSome (kind_at d [])) (sym (rolls-Scalar s)) (some_kind _ _ (scalar-here s))
rolled_here (Datum-F.Array v) = subst (λ d. IsSome (kind_at d [])) (sym (rolls-Array v)) (some_kind _ _ (array-here v))
rolled_here (Datum-F.Table m) = subst (λ d. IsSome (kind_at d [])) (sym (rolls-Table m)) (some_kind _ _ (table-here m))

-- each datum is of a kind
pub has_kind : DatumHasRoot
has_kind = by_cases (λ d. IsSome (kind_at d [])) rolled_here

one_of_three : (x : Datum-F Datum) → ((s : Value) × (roll-Datum x ≡ Scalar s)) ⊎ (((v : Elements) × (roll-Datum x ≡ Array v)) ⊎ ((m : Members) × (roll-Datum x ≡ Table m)))
one_of_three (Datum-F.Scalar s) = inl (s, rolls-Scalar s)
one_of_three (Datum-F.Array v) = inr (inl (v, rolls-Array v))
one_of_three (Datum-F.Table m) = inr (inr (m, rolls-Table m))

-- each datum is of a variant
pub datum_is : DatumIsOneOfThree
datum_is = by_cases (λ d. ((s : Value) × (d ≡ Scalar s)) ⊎ (((v : Elements) × (d ≡ Array v)) ⊎ ((m : Members) × (d ≡ Table m)))) one_of_three

-- its kind says which variant it is

scalar_rolled : (v : ScalarValue) (x : Datum-F Datum) → kind_at (roll-Datum x) [] ≡ Some (a_scalar v) → (s : Value) × (roll-Datum x ≡ Scalar s)
scalar_rolled v (Datum-F.Scalar s) is = (s, rolls-Scalar s)
scalar_rolled v (Datum-F.Array w) is =
    let other : ◌≡◌ {A = Option Kind} (Some an_array) (Some (a_scalar v)) = sym (array-here w) ∙ ap (λ d. kind_at d []) (sym (rolls-Array w)) ∙ is in
    cc
scalar_rolled v (Datum-F.Table m) is =
    let other : ◌≡◌ {A = Option Kind} (Some a_table) (Some (a_scalar v)) = sym (table-here m) ∙ ap (λ d. kind_at d []) (sym (rolls-Table m)) ∙ is in
    cc

pub scalar_from_kind : (d : Datum) (v : ScalarValue) → kind_at d [] ≡ Some (a_scalar v) → (s : Value) × (d ≡ Scalar s)
scalar_from_kind d v = by_cases (λ d. kind_at d [] ≡ Some (a_scalar v) → (s : Value) × (d ≡ Scalar s)) (scalar_rolled v) d

array_rolled : (x : Datum-F Datum) → kind_at (roll-Datum x) [] ≡ Some an_array → (v : Vec Datum Global) × (roll-Datum x ≡ Array v)
array_rolled (Datum-F.Scalar s) is =
    let other : ◌≡◌ {A = Option Kind} (Some (a_scalar (scalar_value s))) (Some an_array) = sym (scalar-here s) ∙ ap (λ d. kind_at d []) (sym (rolls-Scalar s)) ∙ is in
    cc
array_rolled (Datum-F.Array v) is = (v, rolls-Array v)
array_rolled (Datum-F.Table m) is =
    let other : ◌≡◌ {A = Option Kind} (Some a_table) (Some an_array) = sym (table-here m) ∙ ap (λ d. kind_at d []) (sym (rolls-Table m)) ∙ is in
    cc

pub array_from_kind : (d : Datum) → kind_at d [] ≡ Some an_array → (v : Vec Datum Global) × (d ≡ Array v)
array_from_kind = by_cases (λ d. kind_at d [] ≡ Some an_array → (v : Vec Datum Global) × (d ≡ Array v)) array_rolled

table_rolled : (x : Datum-F Datum) → kind_at (roll-Datum x) [] ≡ Some a_table → (m : BTreeMap (String Global) Datum) × (roll-Datum x ≡ Table m)
table_rolled (Datum-F.Scalar s) is =
    let other : ◌≡◌ {A = Option Kind} (Some (a_scalar (scalar_value s))) (Some a_table) = sym (scalar-here s) ∙ ap (λ d. kind_at d []) (sym (rolls-Scalar s)) ∙ is in
    cc
table_rolled (Datum-F.Array v) is =
    let other : ◌≡◌ {A = Option Kind} (Some an_array) (Some a_table) = sym (array-here v) ∙ ap (λ d. kind_at d []) (sym (rolls-Array v)) ∙ is in
    cc
table_rolled (Datum-F.Table m) is = (m, rolls-Table m)

pub table_from_kind : (d : Datum) → kind_at d [] ≡ Some a_table → (m : BTreeMap (String Global) Datum) × (d ≡ Table m)
table_from_kind = by_cases (λ d. kind_at d [] ≡ Some a_table → (m : BTreeMap (String Global) Datum) × (d ≡ Table m)) table_rolled

-- what `get` of a slice answers
pub item_got : {X : Type 0} (xs : List X) (i : ℕ) (r : Option (Bor X)) → IsGetResult xs i i r → option_copied r ≡ slice_get xs i
item_got xs i r h = search (rules, slice_get_past, slice_get-get_or)

no_kind : {P : Type 0} (o : Option Kind) → o ≡ None → IsSome o → P
no_kind o none some = absurd (true≢false (sym some ∙ ap is_some none))

-- a part was found exactly where something stands
pub part_found : (o : Option (Bor Datum)) (d : Datum) (at : Address) → ((rest : Address) → kind_in (option_copied o) rest ≡ kind_at d (at ++ rest)) → IsSome o ↔ IsSome (kind_at d at)
part_found None d at is = (λ h. absurd (true≢false (sym h)), λ h. no_kind (kind_at d at) (ap (kind_at d) (sym (append-nil at)) ∙ sym (is [])) h)
part_found (Some p) d at is = (λ h. subst IsSome (is [] ∙ ap (kind_at d) (append-nil at)) (has_kind p.now), λ h. refl)
