-- Where elements stand before an insertion and before a removal.
use Rattle.std.proofs.Common.{◌≡◌, ℕ, ◌+◌, ◌-◌, ◌<◌, ◌≤◌, ◌^◌, List, [], ◌∷◌, Option, Some, None, Bool, true, false, cond, refl, sym, ap, ◌∙◌, arith}
use Rattle.std.specs.Prelude.{option_and_then}
use Rattle.std.specs.Bool.{nat_lt, nat_le}
use Rattle.std.specs.Prelude.{◌==◌}
use Rattle.std.proofs.lemmas.Bool.{eqb-true}
use Rattle.std.proofs.lemmas.Bool.Decides.{nat_tests}
use Rattle.toml_edits.specs.Runs.{fit, further, index_in, lost_in, rest_of, without, with_lost, WithoutShifts, LostShifts}
use Rattle.toml_edits.specs.declared.shifts.Run.{Run}

pub at_run : (r : Run) (rs : List Run) (j : ℕ) → r.start ≤ j → index_in (r ∷ rs) j ≡ further r.to (j - r.start)
at_run r rs j h = let e : nat_le r.start j ≡ true = grind (arith, nat_tests) in ap (λ (b : Bool). cond b (further r.to (j - r.start)) (index_in rs j)) e

pub past_run : (r : Run) (rs : List Run) (j : ℕ) → j < r.start → index_in (r ∷ rs) j ≡ index_in rs j
past_run r rs j h = let e : nat_le r.start j ≡ false = grind (arith, nat_tests) in ap (λ (b : Bool). cond b (further r.to (j - r.start)) (index_in rs j)) e

fit_is : (n : ℕ) → n < 2 ^ 64 → fit n ≡ Some n
fit_is n h = let e : nat_lt n (2 ^ 64) ≡ true = grind (arith, nat_tests) in ap (λ (b : Bool). cond b (Some n) None) e

fit_not : (n : ℕ) → 2 ^ 64 ≤ n → fit n ≡ None
fit_not n h = let e : nat_lt n (2 ^ 64) ≡ false = grind (arith, nat_tests) in ap (λ (b : Bool). cond b (Some n) None) e

-- further by one number and then by another
pub further_on : (o : Option ℕ) (m n k : ℕ) → m + n ≡ k → further (further o m) n ≡ further o k
further_on None m n k e = refl
further_on (Some t) m n k e = by (nat_lt (t + m) (2 ^ 64)) refl
  where
    same : t + m + n ≡ t + k
    same = omega (arith, e)

    by : (b : Bool) → nat_lt (t + m) (2 ^ 64) ≡ b → option_and_then (λ u. fit (u + n)) (cond b (Some (t + m)) None) ≡ fit (t + k)
    by true x = ap fit same
    by false x = sym (fit_not (t + k) (let l : 2 ^ 64 ≤ t + m = grind (arith, nat_tests) in omega (arith, e)))

-- the tests of the index and the run
pub below_or_not : {P : Type 0} (i s : ℕ) → (i < s → nat_lt i s ≡ true → P) → (s ≤ i → nat_lt i s ≡ false → P) → P
below_or_not {P} i s f g = by (nat_lt i s) refl
  where
    by : (b : Bool) → nat_lt i s ≡ b → P
    by true e = f (grind (arith, nat_tests)) e
    by false e = g (grind (arith, nat_tests)) e

-- what a run behind it covers plays no part in front of it
pub rest_low : (i : ℕ) (r : Run) (rs : List Run) (j : ℕ) → j < i → index_in (rest_of i r rs) j ≡ index_in (r ∷ rs) j
rest_low i r rs j h = by (r.start == i) refl
  where
    by : (b : Bool) → r.start == i ≡ b → index_in (cond b rs (r ∷ rs)) j ≡ index_in (r ∷ rs) j
    by false e = refl
    by true e = let same : r.start ≡ i = eqb-true r.start i e in sym (past_run r rs j (omega (arith, h, same)))

pub without_low : (i : ℕ) (rs : List Run) (j : ℕ) → j < i → index_in (without i rs) j ≡ index_in rs j
without_low i [] j h = past_run (record { start = i; to = fit (i + 1) }) [] j h
without_low i (r ∷ rs) j h = below_or_not i r.start (front (without_low i rs j h)) here
  where
    pick : Bool → List Run
    pick b = cond b (record { start = r.start - 1; to = r.to } ∷ without i rs) (record { start = i; to = further r.to (i - r.start + 1) } ∷ rest_of i r rs)

    front : index_in (without i rs) j ≡ index_in rs j → i < r.start → nat_lt i r.start ≡ true → index_in (without i (r ∷ rs)) j ≡ index_in (r ∷ rs) j
    front next l e = ap (λ (b : Bool). index_in (pick b) j) e ∙ past_run (record { start = r.start - 1; to = r.to }) (without i rs) j (omega (arith, l, h)) ∙ next ∙ sym (past_run r rs j (omega (arith, l, h)))

    here : r.start ≤ i → nat_lt i r.start ≡ false → index_in (without i (r ∷ rs)) j ≡ index_in (r ∷ rs) j
    here l e = ap (λ (b : Bool). index_in (pick b) j) e ∙ past_run (record { start = i; to = further r.to (i - r.start + 1) }) (rest_of i r rs) j h ∙ rest_low i r rs j h

pub without_high : (i : ℕ) (rs : List Run) (j : ℕ) → i ≤ j → j + 1 < 2 ^ 64 → index_in (without i rs) j ≡ index_in rs (j + 1)
without_high i [] j h room =
    let e : i + 1 + (j - i) ≡ j + 1 = omega (arith, h) in
    at_run (record { start = i; to = fit (i + 1) }) [] j h ∙ ap (λ (o : Option ℕ). further o (j - i)) (fit_is (i + 1) (omega (arith, h, room))) ∙ ap fit e ∙ fit_is (j + 1) room
without_high i (r ∷ rs) j h room = below_or_not i r.start (front (without_high i rs j h room)) here
  where
    pick : Bool → List Run
    pick b = cond b (record { start = r.start - 1; to = r.to } ∷ without i rs) (record { start = i; to = further r.to (i - r.start + 1) } ∷ rest_of i r rs)

    front : index_in (without i rs) j ≡ index_in rs (j + 1) → i < r.start → nat_lt i r.start ≡ true → index_in (without i (r ∷ rs)) j ≡ index_in (r ∷ rs) (j + 1)
    front next l e = ap (λ (b : Bool). index_in (pick b) j) e ∙ below_or_not j (r.start - 1)
        (λ less f. past_run (record { start = r.start - 1; to = r.to }) (without i rs) j less ∙ next ∙ sym (past_run r rs (j + 1) (omega (arith, l, less))))
        (λ more f. at_run (record { start = r.start - 1; to = r.to }) (without i rs) j more ∙ (let d : j - (r.start - 1) ≡ j + 1 - r.start = omega (arith, l, more) in ap (further r.to) d) ∙ sym (at_run r rs (j + 1) (omega (arith, l, more))))

    here : r.start ≤ i → nat_lt i r.start ≡ false → index_in (without i (r ∷ rs)) j ≡ index_in (r ∷ rs) (j + 1)
    here l e =
        ap (λ (b : Bool). index_in (pick b) j) e ∙ at_run (record { start = i; to = further r.to (i - r.start + 1) }) (rest_of i r rs) j h ∙ further_on r.to (i - r.start + 1) (j - i) (j + 1 - r.start) (omega (arith, l, h)) ∙ sym (at_run r rs (j + 1) (omega (arith, l, h)))

pub without_shifts : WithoutShifts
without_shifts i rs j = (without_low i rs j, without_high i rs j)

-- from the beginning of a run on that stands nowhere
pub nowhere_on : (r : Run) (rs : List Run) (j : ℕ) → r.to ≡ None → r.start ≤ j → index_in (r ∷ rs) j ≡ None
nowhere_on r rs j is h = at_run r rs j h ∙ ap (λ (o : Option ℕ). further o (j - r.start)) is

pub lost_low : (i : ℕ) (rs : List Run) (j : ℕ) → j < i → index_in (with_lost i rs) j ≡ index_in rs j
lost_low i [] j h = past_run (record { start = i + 1; to = Some i }) (record { start = i; to = None } ∷ []) j (omega (arith, h)) ∙ past_run (record { start = i; to = None }) [] j h
lost_low i (r ∷ rs) j h = below_or_not i r.start (front (lost_low i rs j h)) here
  where
    pick : Bool → List Run
    pick b = cond b (record { start = r.start + 1; to = r.to } ∷ with_lost i rs) (lost_in i r rs r.to)

    front : index_in (with_lost i rs) j ≡ index_in rs j → i < r.start → nat_lt i r.start ≡ true → index_in (with_lost i (r ∷ rs)) j ≡ index_in (r ∷ rs) j
    front next l e = ap (λ (b : Bool). index_in (pick b) j) e ∙ past_run (record { start = r.start + 1; to = r.to }) (with_lost i rs) j (omega (arith, l, h)) ∙ next ∙ sym (past_run r rs j (omega (arith, l, h)))

    here : r.start ≤ i → nat_lt i r.start ≡ false → index_in (with_lost i (r ∷ rs)) j ≡ index_in (r ∷ rs) j
    here l e = ap (λ (b : Bool). index_in (pick b) j) e ∙ by r.to
      where
        by : (o : Option ℕ) → index_in (lost_in i r rs o) j ≡ index_in (r ∷ rs) j
        by None = refl
        by (Some t) =
            past_run (record { start = i + 1; to = further (Some t) (i - r.start) }) (record { start = i; to = None } ∷ rest_of i r rs) j (omega (arith, h))
            ∙ past_run (record { start = i; to = None }) (rest_of i r rs) j h ∙ rest_low i r rs j h

pub lost_here : (i : ℕ) (rs : List Run) → index_in (with_lost i rs) i ≡ None
lost_here i [] = past_run (record { start = i + 1; to = Some i }) (record { start = i; to = None } ∷ []) i (omega arith) ∙ at_run (record { start = i; to = None }) [] i (omega arith)
lost_here i (r ∷ rs) = below_or_not i r.start (front (lost_here i rs)) here
  where
    pick : Bool → List Run
    pick b = cond b (record { start = r.start + 1; to = r.to } ∷ with_lost i rs) (lost_in i r rs r.to)

    front : index_in (with_lost i rs) i ≡ None → i < r.start → nat_lt i r.start ≡ true → index_in (with_lost i (r ∷ rs)) i ≡ None
    front next l e = ap (λ (b : Bool). index_in (pick b) i) e ∙ past_run (record { start = r.start + 1; to = r.to }) (with_lost i rs) i (omega (arith, l)) ∙ next

    here : r.start ≤ i → nat_lt i r.start ≡ false → index_in (with_lost i (r ∷ rs)) i ≡ None
    here l e = ap (λ (b : Bool). index_in (pick b) i) e ∙ by r.to refl
      where
        by : (o : Option ℕ) → r.to ≡ o → index_in (lost_in i r rs o) i ≡ None
        by None is = nowhere_on r rs i is l
        by (Some t) is =
            past_run (record { start = i + 1; to = further (Some t) (i - r.start) }) (record { start = i; to = None } ∷ rest_of i r rs) i (omega arith)
            ∙ at_run (record { start = i; to = None }) (rest_of i r rs) i (omega arith)

pub lost_high : (i : ℕ) (rs : List Run) (j : ℕ) → i < j → j < 2 ^ 64 → index_in (with_lost i rs) j ≡ index_in rs (j - 1)
lost_high i [] j h room = at_run (record { start = i + 1; to = Some i }) (record { start = i; to = None } ∷ []) j (omega (arith, h)) ∙ (let e : i + (j - (i + 1)) ≡ j - 1 = omega (arith, h) in ap fit e) ∙ fit_is (j - 1) (omega (arith, room))
lost_high i (r ∷ rs) j h room = below_or_not i r.start (front (lost_high i rs j h room)) here
  where
    pick : Bool → List Run
    pick b = cond b (record { start = r.start + 1; to = r.to } ∷ with_lost i rs) (lost_in i r rs r.to)

    front : index_in (with_lost i rs) j ≡ index_in rs (j - 1) → i < r.start → nat_lt i r.start ≡ true → index_in (with_lost i (r ∷ rs)) j ≡ index_in (r ∷ rs) (j - 1)
    front next l e = ap (λ (b : Bool). index_in (pick b) j) e ∙ below_or_not j (r.start + 1)
        (λ less f. past_run (record { start = r.start + 1; to = r.to }) (with_lost i rs) j less ∙ next ∙ sym (past_run r rs (j - 1) (omega (arith, h, less))))
        (λ more f. at_run (record { start = r.start + 1; to = r.to }) (with_lost i rs) j more ∙ (let d : j - (r.start + 1) ≡ j - 1 - r.start = omega (arith, more) in ap (further r.to) d) ∙ sym (at_run r rs (j - 1) (omega (arith, more))))

    here : r.start ≤ i → nat_lt i r.start ≡ false → index_in (with_lost i (r ∷ rs)) j ≡ index_in (r ∷ rs) (j - 1)
    here l e = ap (λ (b : Bool). index_in (pick b) j) e ∙ by r.to refl
      where
        by : (o : Option ℕ) → r.to ≡ o → index_in (lost_in i r rs o) j ≡ index_in (r ∷ rs) (j - 1)
        by None is = nowhere_on r rs j is (omega (arith, l, h)) ∙ sym (nowhere_on r rs (j - 1) is (omega (arith, l, h)))
        by (Some t) is =
            at_run (record { start = i + 1; to = further (Some t) (i - r.start) }) (record { start = i; to = None } ∷ rest_of i r rs) j (omega (arith, h))
            ∙ further_on (Some t) (i - r.start) (j - (i + 1)) (j - 1 - r.start) (omega (arith, l, h)) ∙ ap (λ (o : Option ℕ). further o (j - 1 - r.start)) (sym is) ∙ sym (at_run r rs (j - 1) (omega (arith, l, h)))

pub lost_shifts : LostShifts
lost_shifts i rs j low = (lost_low i rs j, lost_here i rs, lost_high i rs j)
