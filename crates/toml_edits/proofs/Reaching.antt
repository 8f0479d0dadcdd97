-- How far below data something stands, level by level.
use Rattle.std.proofs.Common.{◌≡◌, ◌↔◌, ℕ, zero, suc, ◌-◌, ◌<◌, ◌≤◌, Bool, true, false, cond, List, [], ◌∷◌, length, Option, Some, None, IsSome, IsTrue, is_some, is_eq, nat_cmp, String, Vec, BTreeMap, Global, string_bytes, refl, sym, ap, subst, ◌∙◌, true≢false, arith}
use Rattle.std.specs.BTreeMap.{get_by_text, is_at}
use Rattle.std.specs.Cmp.Lexicographic.{slice_cmp}
use Rattle.std.specs.Map.{lookup}
use Rattle.std.specs.Prelude.{slice_get}
use Rattle.toml_names.specs.declared.model.address.Step.TheVariants.{Name, Index}
use Rattle.toml_names.specs.declared.model.datum.Datum.{Datum, Array, Table}
use Rattle.toml_names.specs.model.Data.{kind_at, kind_in}
use Rattle.toml_names.specs.mentions.Mentions.{Kind}
use Rattle.toml_names.proofs.Proved.{array-item, array-name, table-member, table-index}
use Rattle.toml_edits.specs.Reach.{Reaches}

-- what a test answers, once it is known
pub accepted : {A : Type 0} → A → IsTrue true ↔ A
accepted a = (λ h. a, λ b. refl)

pub refused : {A : Type 0} → (A → ⊥) → IsTrue false ↔ A
refused not = (λ h. absurd (true≢false (sym h)), λ a. absurd (not a))

abbrev pub Entry : Type 0
Entry = String Global × Datum

-- so far below none of the members
abbrev pub NoneReaches : ℕ → List Entry → Type 0
NoneReaches steps [] = Unit {0}
NoneReaches steps (e ∷ es) = (¬ Reaches (kind_at e.1) steps) × NoneReaches steps es

no_kind : {P : Type 0} (o : Option Kind) → o ≡ None → IsSome o → P
no_kind o none some = absurd (true≢false (sym some ∙ ap is_some none))

-- one step further
pub array_reaches : (v : Vec Datum Global) (steps : ℕ) → ¬ (steps ≡ 0) → ((index : ℕ) × Reaches (kind_in (slice_get v.items index)) (steps - 1)) ↔ Reaches (kind_at (Array v)) steps
array_reaches v steps some = (up, down)
  where
    up : ((index : ℕ) × Reaches (kind_in (slice_get v.items index)) (steps - 1)) → Reaches (kind_at (Array v)) steps
    up (i, (at, is, far)) = (Index i ∷ at, subst IsSome (sym (array-item v i at)) is, omega arith)

    down : Reaches (kind_at (Array v)) steps → (index : ℕ) × Reaches (kind_in (slice_get v.items index)) (steps - 1)
    down ([], is, far) = absurd (some (omega arith))
    down (Name n ∷ at, is, far) = no_kind _ (array-name v n at) is
    down (Index i ∷ at, is, far) = (i, (at, subst IsSome (array-item v i at) is, omega arith))

pub table_reaches : (m : BTreeMap (String Global) Datum) (steps : ℕ) → ¬ (steps ≡ 0) → ((name : List ℕ) × Reaches (kind_in (get_by_text m name)) (steps - 1)) ↔ Reaches (kind_at (Table m)) steps
table_reaches m steps some = (up, down)
  where
    up : ((name : List ℕ) × Reaches (kind_in (get_by_text m name)) (steps - 1)) → Reaches (kind_at (Table m)) steps
    up (n, (at, is, far)) = (Name n ∷ at, subst IsSome (sym (table-member m n at)) is, omega arith)

    down : Reaches (kind_at (Table m)) steps → (name : List ℕ) × Reaches (kind_in (get_by_text m name)) (steps - 1)
    down ([], is, far) = absurd (some (omega arith))
    down (Index i ∷ at, is, far) = no_kind _ (table-index m i at) is
    down (Name n ∷ at, is, far) = (n, (at, subst IsSome (table-member m n at) is, omega arith))

-- ---- of what a loop went over

pub none_past : (ds : List Datum) (steps count : ℕ) → length ds ≤ count → ((i : ℕ) → i < count → ¬ Reaches (kind_in (slice_get ds i)) steps) → ¬ ((index : ℕ) × Reaches (kind_in (slice_get ds index)) steps)
none_past ds steps count all each (i, (at, is, far)) = let within : i < length ds = low ds i is in each i (omega arith) (at, is, far)
  where
    low : (ds : List Datum) (i : ℕ) → IsSome (kind_in (slice_get ds i) at) → i < length ds
    low [] i is = absurd (true≢false (sym is))
    low (d ∷ ds) zero is = omega arith
    low (d ∷ ds) (suc i) is = let h : i < length ds = low ds i is in omega arith

pub none_found : (es : List Entry) (steps : ℕ) → NoneReaches steps es → (name : List ℕ) → ¬ Reaches (kind_in (lookup (is_at (λ k. slice_cmp nat_cmp name (string_bytes k))) es)) steps
none_found [] steps none name = λ (at, is, far). true≢false (sym is)
none_found (e ∷ es) steps none name = by (is_eq (slice_cmp nat_cmp name (string_bytes e.0))) (none_found es steps none.1 name)
  where
    by : (b : Bool) → ¬ Reaches (kind_in (lookup (is_at (λ k. slice_cmp nat_cmp name (string_bytes k))) es)) steps → ¬ Reaches (kind_in (cond b (Some e.1) (lookup (is_at (λ k. slice_cmp nat_cmp name (string_bytes k))) es))) steps
    by true later = none.0
    by false later = later

-- ---- what the code answers

-- what was found in a part, for all of the whole
pub through : {r : Bool} {A B : Type 0} → IsTrue r ↔ A → A ↔ B → IsTrue r ↔ B
through e f = (λ h. f.0 (e.0 h), λ b. e.1 (f.1 b))

pub refuted : {r : Bool} {A : Type 0} → IsTrue r ↔ A → r ≡ false → ¬ A
refuted e other = λ a. true≢false (sym (e.1 a) ∙ other)

pub none_more : (steps : ℕ) (es left : List Entry) (e : Entry) → es ≡ e ∷ left → ¬ Reaches (kind_at e.1) steps → NoneReaches steps left → NoneReaches steps es
none_more steps es left e is here none = subst (NoneReaches steps) (sym is) (here, none)

pub none_left : (steps : ℕ) (es : List Entry) → es ≡ [] → NoneReaches steps es
none_left steps es is = subst (NoneReaches steps) (sym is) tt
