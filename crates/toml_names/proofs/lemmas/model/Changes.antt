-- What a datum has where one part changes.
use Rattle.toml_names.proofs.Common.{◌≡◌, ◌⊎◌, inl, inr, true≢false, ℕ, zero, suc, ◌<◌, ◌≤◌, cond, List, [], ◌∷◌, length, map, set, Option, Some, None, IsSome, is_some, String, Vec, BTreeMap, Global, bytes_eq, refl, sym, ap, subst, ◌∙◌, arith, rules, cases_lt, nat_tests, nat_eq, slice_get, get_by_text, Step, Name, Index, Datum, Table, rolls-Scalar, rolls-Array, rolls-Table, Datum-F, roll-Datum, Address, with_child, Kinds, kind_at, kind_in, in_array, in_table, IndexIsWithin, NameHasMember, Kind}
use Rattle.toml_names.specs.declared.model.datum.Datum.{Array}
use Rattle.toml_names.specs.model.Parts.{HasPart, DatumHasPart, StepIsThere, PartIsThere}
use Rattle.toml_names.proofs.lemmas.model.Equal.{same_step-self}
use Rattle.toml_names.proofs.lemmas.model.Alike.{part_there}
use Rattle.toml_names.proofs.lemmas.model.Levels.{by_cases, kind_at-array, kind_at-table, scalar-below, array-here, array-item, array-name, table-here, table-member, table-index, has_kind}

same_test : (i j : ℕ) → nat_eq i j ≡ nat_eq (suc i) (suc j)
same_test i j = grind (arith, nat_tests)

get_set : {X : Type 0} (xs : List X) (i j : ℕ) (x : X) → i < length xs → slice_get (set xs i x) j ≡ cond (nat_eq i j) (Some x) (slice_get xs j)
get_set [] i j x h = absurd (omega arith)
get_set (y ∷ xs) zero zero x h = refl
get_set (y ∷ xs) zero (suc j) x h = grind (arith, nat_tests)
get_set (y ∷ xs) (suc i) zero x h = grind (arith, nat_tests)
get_set (y ∷ xs) (suc i) (suc j) x h = get_set xs i j x (omega arith) ∙ ap (λ b. cond b (Some x) (slice_get xs j)) (same_test i j)

pub array-set : (v w : Vec Datum Global) (i : ℕ) (d : Datum) → w.items ≡ set v.items i d → i < length v.items → (at : Address) → kind_at (Array w) at ≡ with_child (Index i) (kind_at d) (kind_at (Array v)) at
array-set v w i d is low at = search (rules, array-here, array-name, array-item, get_set)

pub table-set : (m n : BTreeMap (String Global) Datum) (k : List ℕ) (d : Datum) → ((q : List ℕ) → get_by_text n q ≡ cond (bytes_eq k q) (Some d) (get_by_text m q))
    → (at : Address) → kind_at (Table n) at ≡ with_child (Name k) (kind_at d) (kind_at (Table m)) at
table-set m n k d is at = search (rules, table-here, table-index, table-member)

within : (ds : List Datum) (i : ℕ) → IsSome (kind_in (slice_get ds i) []) → i < length ds
within [] i some = cc
within (d ∷ ds) zero some = omega arith
within (d ∷ ds) (suc i) some = let low : i < length ds = within ds i some in omega arith

-- an index at which something stands is below the length
pub array-within : IndexIsWithin
array-within v i some = within v.items i (subst IsSome (array-item v i []) some)

pub table-has : NameHasMember
table-has m k some = part_there _ (subst IsSome (table-member m k []) some)

part_rolled : (s : Step) (x : Datum-F Datum) → HasPart s (roll-Datum x)
part_rolled s (Datum-F.Scalar t) = subst (HasPart s) (sym (rolls-Scalar t)) (None, λ at. scalar-below t s at)
part_rolled (Index i) (Datum-F.Array v) = subst (HasPart (Index i)) (sym (rolls-Array v)) (slice_get v.items i, λ at. array-item v i at)
part_rolled (Name n) (Datum-F.Array v) = subst (HasPart (Name n)) (sym (rolls-Array v)) (None, λ at. array-name v n at)
part_rolled (Name n) (Datum-F.Table m) = subst (HasPart (Name n)) (sym (rolls-Table m)) (get_by_text m n, λ at. table-member m n at)
part_rolled (Index i) (Datum-F.Table m) = subst (HasPart (Index i)) (sym (rolls-Table m)) (None, λ at. table-index m i at)

pub has_part : DatumHasPart
has_part s = by_cases (HasPart s) (part_rolled s)

-- what has something below a step has something at the step
part_above : (o : Option Datum) (at : Address) → IsSome (kind_in o at) → IsSome (kind_in o [])
part_above None at some = some
part_above (Some d) at some = has_kind d

pub step_there : StepIsThere
step_there d s at some = let p = has_part s d in subst IsSome (sym (p.1 [])) (part_above p.0 at (subst IsSome (p.1 at) some))

some_below : (ds : List Datum) (i : ℕ) → i < length ds → IsSome (kind_in (slice_get ds i) [])
some_below [] i low = absurd (omega arith)
some_below (d ∷ ds) zero low = has_kind d
some_below (d ∷ ds) (suc i) low = some_below ds i (omega arith)

no_some : {P : Type 0} (o : Option Kind) → o ≡ None → IsSome o → P
no_some o none some = absurd (true≢false (sym some ∙ ap is_some none))

-- where nothing stands at an index, the array has no more elements; where nothing stands at a name, the table has no such member
pub array-past : (v : Vec Datum Global) (i : ℕ) → kind_at (Array v) (Index i ∷ []) ≡ None → length v.items ≤ i
array-past v i absent = by (cases_lt i (length v.items))
  where
    by : i < length v.items ⊎ (length v.items ≤ i) → length v.items ≤ i
    by (inl low) = no_some _ absent (subst IsSome (sym (array-item v i [])) (some_below v.items i low))
    by (inr high) = high

no_part : (o : Option Datum) → kind_in o [] ≡ None → o ≡ None
no_part None is = refl
no_part (Some d) is = no_some _ is (has_kind d)

pub table-lacks : (m : BTreeMap (String Global) Datum) (k : List ℕ) → kind_at (Table m) (Name k ∷ []) ≡ None → get_by_text m k ≡ None
table-lacks m k absent = no_part _ (sym (table-member m k []) ∙ absent)

-- the elements, or the members, are all that counts
pub array-alike : (v w : Vec Datum Global) → w.items ≡ v.items → (at : Address) → kind_at (Array w) at ≡ kind_at (Array v) at
array-alike v w is at = ap (λ (f : Kinds). f at) (kind_at-array w ∙ ap (λ ds. in_array (map kind_at ds)) is ∙ sym (kind_at-array v))

pub table-alike : (m n : BTreeMap (String Global) Datum) → n.entries ≡ m.entries → (at : Address) → kind_at (Table n) at ≡ kind_at (Table m) at
table-alike m n is at = ap (λ (f : Kinds). f at) (kind_at-table n ∙ ap (λ es. in_table (map (λ (e : String Global × Datum). (e.0, kind_at e.1)) es)) is ∙ sym (kind_at-table m))

-- a hole that was left is there
pub hole_there : PartIsThere
hole_there s hole kinds some = subst (λ b. IsSome (cond b (hole []) (kinds (s ∷ [])))) (sym (same_step-self s)) some
