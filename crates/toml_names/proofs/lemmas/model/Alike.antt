-- Data that have the same at each address.
use Rattle.toml_names.proofs.Common.{◌≡◌, ◌↔◌, ℕ, ◌<◌, ◌≤◌, Bool, true, false, List, [], ◌∷◌, length, Option, Some, None, IsSome, IsTrue, is_some, String, Vec, Global, string_bytes, nat_cmp, is_eq, ⊎_elim, refl, sym, ap, subst, ◌∙◌, true≢false, arith, rules, cases_lt, slice_get_past, slice_get_within, slice_get-get_or, is_eq-slice_cmp, bytes_eq-Decides, slice_get, is_at, get_by_text, slice_cmp, lookup, scalar_value, Name, Index, Datum, Table, Address, kind_at, kind_in, Members, Kind, a_scalar, AreMembersOf, AreSame, AreSameElements, AreSameIn, AreSameMembers, HasAllNames, SameScalars, SameArrays, SameTables}
use Rattle.toml_scalar.specs.declared.scalar.Scalar.{Scalar as Value}
use Rattle.toml_names.specs.declared.model.datum.Datum.{Scalar, Array}
use Rattle.toml_names.proofs.lemmas.model.Levels.{scalar-here, scalar-below, array-here, array-item, array-name, table-here, table-member, table-index, has_kind, scalar_from_kind, array_from_kind, table_from_kind}

pub part_there : (o : Option Datum) → IsSome (kind_in o []) → IsSome o
part_there o some = search rules

pub kind_there : (o : Option Datum) → IsSome o → IsSome (kind_in o [])
kind_there None some = some
kind_there (Some d) some = has_kind d

pub there_too : (o p : Option Datum) → AreSameIn o p → IsSome o → IsSome p
there_too o p alike some = part_there p (subst IsSome (alike []) (kind_there o some))

pub parts_alike : (o p : Option Datum) (d e : Datum) → o ≡ Some d → p ≡ Some e → AreSame d e ↔ AreSameIn o p
parts_alike o p d e is to =
    let there : (at : Address) → kind_in o at ≡ kind_at d at = λ at. ap (λ (r : Option Datum). kind_in r at) is in
    let too : (at : Address) → kind_in p at ≡ kind_at e at = λ at. ap (λ (r : Option Datum). kind_in r at) to in
    (λ alike at. there at ∙ alike at ∙ sym (too at), λ alike at. sym (there at) ∙ alike at ∙ too at)

-- ---- scalars

pub scalars_alike : SameScalars
scalars_alike s t = (there, λ alike. inner (sym (scalar-here s) ∙ alike [] ∙ scalar-here t))
  where
    there : scalar_value s ≡ scalar_value t → AreSame (Scalar s) (Scalar t)
    there same [] = scalar-here s ∙ ap (λ v. Some (a_scalar v)) same ∙ sym (scalar-here t)
    there same (step ∷ at) = scalar-below s step at ∙ sym (scalar-below t step at)

    inner : ◌≡◌ {A = Option Kind} (Some (a_scalar (scalar_value s))) (Some (a_scalar (scalar_value t))) → scalar_value s ≡ scalar_value t
    inner same = cc

-- ---- arrays

pub arrays_alike : SameArrays
arrays_alike v w = (there, λ alike index at. sym (array-item v index at) ∙ alike (Index index ∷ at) ∙ array-item w index at)
  where
    there : AreSameElements v.items w.items → AreSame (Array v) (Array w)
    there alike [] = array-here v ∙ sym (array-here w)
    there alike (Name n ∷ at) = array-name v n at ∙ sym (array-name w n at)
    there alike (Index i ∷ at) = array-item v i at ∙ alike i at ∙ sym (array-item w i at)

some_within : (ds : List Datum) (i : ℕ) → i < length ds → IsSome (slice_get ds i)
some_within [] i low = absurd (omega arith)
some_within (d ∷ ds) i low = ap is_some (slice_get-get_or (d ∷ ds) i d low)

within_some : (ds : List Datum) (i : ℕ) → IsSome (slice_get ds i) → i < length ds
within_some ds i some = search (rules, true≢false, slice_get_within)

no_longer : (ds es : List Datum) → AreSameElements ds es → length es ≤ length ds
no_longer ds es alike = ⊎_elim
    (λ low. let h : length ds < length ds = within_some ds (length ds) (there_too (slice_get es (length ds)) (slice_get ds (length ds)) (λ at. sym (alike (length ds) at)) (some_within es (length ds) low)) in absurd (omega arith))
    (λ le. le)
    (cases_lt (length ds) (length es))

pub lengths_alike : (ds es : List Datum) → AreSameElements ds es → length ds ≡ length es
lengths_alike ds es alike = search (rules, no_longer)

-- arrays of one length with like elements at each index
pub items_alike : (ds es : List Datum) (count : ℕ) → length ds ≡ length es → length ds ≤ count → ((i : ℕ) → i < count → AreSameIn (slice_get ds i) (slice_get es i)) → AreSameElements ds es
items_alike ds es count long all each = search (rules, slice_get_past, cases_lt)

-- ---- tables

member_alike : (o p : Option Datum) → (IsSome o → AreSameIn o p) → (IsSome p → IsSome o) → AreSameIn o p
member_alike o p like there = search rules

pub tables_like : (m n : Members) → AreSameMembers m n → AreSame (Table m) (Table n)
tables_like m n like [] = table-here m ∙ sym (table-here n)
tables_like m n like (Index i ∷ at) = table-index m i at ∙ sym (table-index n i at)
tables_like m n like (Name k ∷ at) = table-member m k at ∙ like k at ∙ sym (table-member n k at)

pub tables_alike : (m n : Members) → AreMembersOf m n → HasAllNames m n → AreSame (Table m) (Table n)
tables_alike m n like names = tables_like m n (λ name. member_alike (get_by_text m name) (get_by_text n name) (like name) (names name))

members_alike : (m n : Members) → AreSame (Table m) (Table n) → AreSameMembers m n
members_alike m n alike name at = sym (table-member m name at) ∙ alike (Name name ∷ at) ∙ table-member n name at

pub tables_same : SameTables
tables_same m n = (tables_like m n, members_alike m n)

pub has_like : (m n : Members) → AreSame (Table m) (Table n) → AreMembersOf m n
has_like m n alike name some = members_alike m n alike name

pub has_names : (m n : Members) → AreSame (Table m) (Table n) → HasAllNames m n
has_names m n alike name some = there_too (get_by_text n name) (get_by_text m name) (λ at. sym (members_alike m n alike name at)) some

abbrev pub Entry : Type 0
Entry = String Global × Datum

-- P holds of each name and what stands at it
abbrev pub Each : (List ℕ → Datum → Type 0) → List Entry → Type 0
Each P [] = Unit {0}
Each P (e ∷ es) = P (string_bytes e.0) e.1 × Each P es

pub same_name : (name : List ℕ) (k : String Global) → is_eq (slice_cmp nat_cmp name (string_bytes k)) ≡ true → name ≡ string_bytes k
same_name name k h = (bytes_eq-Decides name (string_bytes k)).0 (sym (is_eq-slice_cmp name (string_bytes k)) ∙ h)

-- so of what a look-up finds
pub each_found : (P : List ℕ → Datum → Type 0) (es : List Entry) → Each P es → (name : List ℕ) (d : Datum) → lookup (is_at (λ k. slice_cmp nat_cmp name (string_bytes k))) es ≡ Some d → P name d
each_found P [] each name d found = cc
each_found P (e ∷ es) each name d found = search (rules, same_name, each_found P es each.1 name d)

pub each_more : (P : List ℕ → Datum → Type 0) (es left : List Entry) (e : Entry) → es ≡ e ∷ left → P (string_bytes e.0) e.1 → Each P left → Each P es
each_more P es left e is here each = subst (Each P) (sym is) (here, each)

pub each_none : (P : List ℕ → Datum → Type 0) (es : List Entry) → es ≡ [] → Each P es
each_none P es is = subst (Each P) (sym is) tt

-- the table has each of the names
abbrev pub HasEach : Members → List Entry → Type 0
HasEach m = Each (λ name d. IsSome (get_by_text m name))

-- the table has the like of each under its name
abbrev pub HasLikeEach : Members → List Entry → Type 0
HasLikeEach n = Each (λ name d. AreSameIn (Some d) (get_by_text n name))

pub HasNames-from_each : (m n : Members) → HasEach m n.entries → HasAllNames m n
HasNames-from_each m n each name some = by (get_by_text n name) refl some
  where
    by : (o : Option Datum) → get_by_text n name ≡ o → IsSome o → IsSome (get_by_text m name)
    by None is h = absurd (true≢false (sym h))
    by (Some d) is h = each_found (λ name d. IsSome (get_by_text m name)) n.entries each name d is

pub HasLike-from_each : (m n : Members) → HasLikeEach n m.entries → AreMembersOf m n
HasLike-from_each m n each name some = by (get_by_text m name) refl some
  where
    by : (o : Option Datum) → get_by_text m name ≡ o → IsSome o → AreSameIn o (get_by_text n name)
    by None is h = absurd (true≢false (sym h))
    by (Some d) is h = each_found (λ name d. AreSameIn (Some d) (get_by_text n name)) m.entries each name d is

-- ---- what the code answers

decided : {r : Bool} {A B : Type 0} → IsTrue r ↔ A → A ↔ B → IsTrue r ↔ B
decided e f = (λ h. f.0 (e.0 h), λ b. e.1 (f.1 b))

pub scalars_decided : (r : Bool) (s t : Value) → IsTrue r ↔ (scalar_value s ≡ scalar_value t) → IsTrue r ↔ AreSame (Scalar s) (Scalar t)
scalars_decided r s t e = decided e (scalars_alike s t)

pub arrays_decided : (r : Bool) (v w : Vec Datum Global) (ds es : List Datum) → ds ≡ v.items → es ≡ w.items → IsTrue r ↔ AreSameElements ds es → IsTrue r ↔ AreSame (Array v) (Array w)
arrays_decided r v w ds es p q e = decided (subst (λ xs. IsTrue r ↔ AreSameElements xs w.items) p (subst (λ ys. IsTrue r ↔ AreSameElements ds ys) q e)) (arrays_alike v w)

pub tables_decided : (r : Bool) (m n : Members) → AreMembersOf m n → IsTrue r ↔ HasAllNames m n → IsTrue r ↔ AreSame (Table m) (Table n)
tables_decided r m n like e = (λ h. tables_alike m n like (e.0 h), λ alike. e.1 (has_names m n alike))

pub tables_apart : (r : Bool) (m n : Members) → IsTrue r ↔ AreMembersOf m n → r ≡ false → IsTrue r ↔ AreSame (Table m) (Table n)
tables_apart r m n e refused = (λ h. absurd (true≢false (sym h ∙ refused)), λ alike. e.1 (has_like m n alike))

pub accepted : {A : Type 0} → A → IsTrue true ↔ A
accepted a = (λ h. a, λ b. refl)

pub refused : {A : Type 0} → (A → ⊥) → IsTrue false ↔ A
refused not = (λ h. absurd (true≢false (sym h)), λ a. absurd (not a))

pub scalar_apart : (s : Value) (d : Datum) → ((t : Value) → d ≡ Scalar t → ⊥) → AreSame (Scalar s) d → ⊥
scalar_apart s d other alike = let is = scalar_from_kind d (scalar_value s) (sym (alike []) ∙ scalar-here s) in other is.0 is.1

pub array_apart : (v : Vec Datum Global) (d : Datum) → ((w : Vec Datum Global) → d ≡ Array w → ⊥) → AreSame (Array v) d → ⊥
array_apart v d other alike = let is = array_from_kind d (sym (alike []) ∙ array-here v) in other is.0 is.1

pub table_apart : (m : Members) (d : Datum) → ((n : Members) → d ≡ Table n → ⊥) → AreSame (Table m) d → ⊥
table_apart m d other alike = let is = table_from_kind d (sym (alike []) ∙ table-here m) in other is.0 is.1
