-- Runs whose starts fall: edits keep them so, and a search by halves finds the run of an index.
use Rattle.std.proofs.Common.{◌≡◌, ℕ, zero, suc, ◌+◌, ◌-◌, ◌<◌, ◌≤◌, List, [], ◌∷◌, length, get_or, Option, Some, None, Bool, true, false, cond, refl, sym, ap, subst, ◌∙◌, arith}
use Rattle.std.specs.Prelude.{◌==◌}
use Rattle.std.specs.Bool.{nat_lt}
use Rattle.std.specs.List.Sorted.{IsPartitionedBy}
use Rattle.std.proofs.lemmas.Bool.Decides.{nat_tests}
use Rattle.toml_edits.specs.Runs.{AreRuns, FallFrom, StartsFall, further, index_in, lost_in, rest_of, without, with_lost}
use Rattle.toml_edits.specs.declared.shifts.Run.{Run}
use Rattle.toml_edits.proofs.Indices.{at_run, below_or_not, past_run}
use Rattle.toml_edits.proofs.OneToOne.{lost_apart, without_apart}

fall_on : (m n : ℕ) (rs : List Run) → m ≤ n → FallFrom m rs → FallFrom n rs
fall_on m n [] h f = tt
fall_on m n (r ∷ rs) h f = (omega (arith, h, f.0), f.1)

-- from any start, and from the first one
starts : (n : ℕ) (rs : List Run) → FallFrom n rs → StartsFall rs
starts n [] f = tt
starts n (r ∷ rs) f = f.1

abbrev first_start : List Run → ℕ
first_start [] = 0
first_start (r ∷ rs) = r.start

from_start : (n : ℕ) (rs : List Run) → first_start rs ≤ n → StartsFall rs → FallFrom n rs
from_start n [] h f = tt
from_start n (r ∷ rs) h f = (h, f)

rest_falls : (i : ℕ) (r : Run) (rs : List Run) → r.start ≤ i → FallFrom r.start rs → FallFrom i (rest_of i r rs)
rest_falls i r rs h f = by (r.start == i)
  where
    by : (b : Bool) → FallFrom i (cond b rs (r ∷ rs))
    by true = fall_on r.start i rs h f
    by false = (h, f)

without_falls : (i n : ℕ) (rs : List Run) → i < n → FallFrom n rs → FallFrom (n - 1) (without i rs)
without_falls i n [] h f = (omega (arith, h), tt)
without_falls i n (r ∷ rs) h f = below_or_not i r.start (λ l e. subst (λ (b : Bool). FallFrom (n - 1) (pick b)) (sym e) (omega (arith, f.0, l), without_falls i r.start rs l f.1))
    (λ l e. subst (λ (b : Bool). FallFrom (n - 1) (pick b)) (sym e) (omega (arith, h), rest_falls i r rs l f.1))
  where
    pick : Bool → List Run
    pick b = cond b (record { start = r.start - 1; to = r.to } ∷ without i rs) (record { start = i; to = further r.to (i - r.start + 1) } ∷ rest_of i r rs)

lost_falls : (i n : ℕ) (rs : List Run) → i < n → FallFrom n rs → FallFrom (n + 1) (with_lost i rs)
lost_falls i n [] h f = (omega (arith, h), (omega arith, tt))
lost_falls i n (r ∷ rs) h f = below_or_not i r.start (λ l e. subst (λ (b : Bool). FallFrom (n + 1) (pick b)) (sym e) (omega (arith, f.0), lost_falls i r.start rs l f.1))
    (λ l e. subst (λ (b : Bool). FallFrom (n + 1) (pick b)) (sym e) (here l r.to))
  where
    pick : Bool → List Run
    pick b = cond b (record { start = r.start + 1; to = r.to } ∷ with_lost i rs) (lost_in i r rs r.to)

    here : r.start ≤ i → (o : Option ℕ) → FallFrom (n + 1) (lost_in i r rs o)
    here l None = (omega (arith, f.0), f.1)
    here l (Some t) = (omega (arith, h), (omega arith, rest_falls i r rs l f.1))

-- ---- the runs of one array behind an edit

abbrev past : ℕ → List Run → ℕ
past i rs = first_start rs + i + 1

pub without_runs : (i : ℕ) (rs : List Run) → AreRuns rs → AreRuns (without i rs)
without_runs i rs h = record {
  apart = without_apart i rs h.apart;
  fall = starts (past i rs - 1) (without i rs) (without_falls i (past i rs) rs (omega arith) (from_start (past i rs) rs (omega arith) h.fall));
}

pub lost_runs : (i : ℕ) (rs : List Run) → AreRuns rs → AreRuns (with_lost i rs)
lost_runs i rs h = record {
  apart = lost_apart i rs h.apart;
  fall = starts (past i rs + 1) (with_lost i rs) (lost_falls i (past i rs) rs (omega arith) (from_start (past i rs) rs (omega arith) h.fall));
}

-- ---- the search

below_first : (n : ℕ) (rs : List Run) (k : ℕ) (d : Run) → FallFrom n rs → k < length rs → (get_or rs k d).start ≤ n
below_first n [] k d f low = absurd (omega (arith, low))
below_first n (r ∷ rs) zero d f low = f.0
below_first n (r ∷ rs) (suc k) d f low = let next = below_first r.start rs k d f.1 (omega (arith, low)) in omega (arith, next, f.0)

below_earlier : (n : ℕ) (rs : List Run) (i k : ℕ) (d : Run) → FallFrom n rs → i ≤ k → k < length rs → (get_or rs k d).start ≤ (get_or rs i d).start
below_earlier n [] i k d f h low = absurd (omega (arith, low))
below_earlier n (r ∷ rs) zero zero d f h low = omega arith
below_earlier n (r ∷ rs) zero (suc k) d f h low = below_first r.start rs k d f.1 (omega (arith, low))
below_earlier n (r ∷ rs) (suc i) zero d f h low = absurd (omega (arith, h))
below_earlier n (r ∷ rs) (suc i) (suc k) d f h low = below_earlier r.start rs i k d f.1 (omega (arith, h)) (omega (arith, low))

pub are_parted : (rs : List Run) (j : ℕ) → StartsFall rs → IsPartitionedBy (λ r. nat_lt j r.start) rs
are_parted rs j f i k d h low is =
    let falls = below_earlier (first_start rs) rs i k d (from_start (first_start rs) rs (omega arith) f) h low in
    let l : j < (get_or rs k d).start = grind (arith, nat_tests) in
    let m : j < (get_or rs i d).start = omega (arith, falls, l) in
    grind (arith, nat_tests)

-- the runs in front of a place begin behind the index
abbrev BeginBehind : ℕ → List Run → ℕ → Type 0
BeginBehind j rs k = (m : ℕ) (d : Run) → 0 ≤ m → m < k → nat_lt j (get_or rs m d).start ≡ true

past_first : (r : Run) (rs : List Run) (j k : ℕ) → BeginBehind j (r ∷ rs) (suc k) → index_in (r ∷ rs) j ≡ index_in rs j
past_first r rs j k front = let b : nat_lt j r.start ≡ true = front 0 r (omega arith) (omega arith) in let l : j < r.start = grind (arith, nat_tests) in past_run r rs j l

tail_behind : (r : Run) (rs : List Run) (j k : ℕ) → BeginBehind j (r ∷ rs) (suc k) → BeginBehind j rs k
tail_behind r rs j k front m d z low = front (suc m) d (omega arith) (omega (arith, low))

run_found : (rs : List Run) (j k : ℕ) (r : Run) → BeginBehind j rs k → k < length rs → r ≡ get_or rs k r → r.start ≤ j → index_in rs j ≡ further r.to (j - r.start)
run_found [] j k r front low is h = absurd (omega (arith, low))
run_found (x ∷ rs) j zero r front low is h = subst (λ (y : Run). index_in (x ∷ rs) j ≡ further y.to (j - y.start)) (sym is) (at_run x rs j (subst (λ (y : Run). y.start ≤ j) is h))
run_found (x ∷ rs) j (suc k) r front low is h = past_first x rs j k front ∙ run_found rs j k r (tail_behind x rs j k front) (omega (arith, low)) is h

none_found : (rs : List Run) (j k : ℕ) → BeginBehind j rs k → length rs ≤ k → index_in rs j ≡ Some j
none_found [] j k front high = refl
none_found (x ∷ rs) j zero front high = absurd (omega (arith, high))
none_found (x ∷ rs) j (suc k) front high = past_first x rs j k front ∙ none_found rs j k (tail_behind x rs j k front) (omega (arith, high))

-- those from the place on do not
abbrev BeginBefore : ℕ → List Run → ℕ → Type 0
BeginBefore j rs k = (m : ℕ) (d : Run) → k ≤ m → m < length rs → nat_lt j (get_or rs m d).start ≡ false

pub in_run : (rs : List Run) (j k n : ℕ) (r : Run) → BeginBehind j rs k × BeginBefore j rs k → true ≡ nat_lt k (length rs) → r ≡ get_or rs k r → n ≡ j - r.start → further r.to n ≡ index_in rs j
in_run rs j k n r point there is far =
    let low : k < length rs = grind (arith, nat_tests) in
    let b : nat_lt j r.start ≡ false = subst (λ (y : Run). nat_lt j y.start ≡ false) (sym is) (point.1 k r (omega arith) low) in
    let h : r.start ≤ j = grind (arith, nat_tests) in
    ap (further r.to) far ∙ sym (run_found rs j k r point.0 low is h)

pub in_none : (rs : List Run) (j k : ℕ) → BeginBehind j rs k × BeginBefore j rs k → false ≡ nat_lt k (length rs) → Some j ≡ index_in rs j
in_none rs j k point there = let high : length rs ≤ k = grind (arith, nat_tests) in sym (none_found rs j k point.0 high)
