-- Units that are walked past one after another, none of them paired.
use Rattle.std.proofs.Common.{◌≡◌, ℕ, ◌+◌, ◌<◌, ◌≤◌, inl, inr, true, false, List, [], ◌∷◌, ◌++◌, Option, Some, None, refl, sym, ap, subst, ◌∙◌, arith, append_assoc}
use Rattle.std.proofs.lemmas.Bool.Decides.{nat_tests}
use Rattle.std.proofs.lemmas.List.{append-nil}
use Rattle.std.proofs.lemmas.Option.{same_Some}
use Rattle.std.specs.Bool.{nat_lt}
use Rattle.toml_tree.specs.Spells.{EachIs}
use Rattle.toml_units.specs.declared.cursor.UnitCursor.{UnitCursor}
use Rattle.toml_units.specs.Cursors.{current}
use Rattle.toml_units.specs.Lined.{LinedUnit}
use Rattle.toml_checker.specs.Traces.{MayBe, Met, lined_of}
use Rattle.toml_checker.specs.Walking.{GoesTo, GoneTo, HoldsWith, lies_ahead}
use Rattle.toml_checker.proofs.Traced.{back_one, each_append, lined_push}

-- the units behind others so far
pub record Going (next : Option LinedUnit) (passed : ℕ) (number : Option ℕ) (old_next : Option LinedUnit) (old_passed : ℕ) (old more : List Met) : Type 0 where
  pub unpaired : EachIs (λ (m : Met). m.paired ≡ false) more
  pub low : (n : ℕ) → number ≡ Some n → old_passed ≤ n → passed ≤ n
  pub back : (all : List LinedUnit) → MayBe next (lined_of (old ++ more)) all → MayBe old_next (lined_of old) all

none : (next : Option LinedUnit) (passed : ℕ) (number : Option ℕ) (old : List Met) → Going next passed number next passed old []
none next passed number old = record {
  unpaired = tt;
  low = λ n is le. le;
  back = λ all h. subst (λ ms. MayBe next (lined_of ms) all) (append-nil old) h;
}

ahead : (number : Option ℕ) (n p : ℕ) → number ≡ Some n → lies_ahead number p ≡ true → p < n
ahead None n p is h = cc
ahead (Some m) n p is h = let e = same_Some m n is in let t : nat_lt p m ≡ true = h in let lt : p < m = grind (arith, nat_tests) in omega (arith, e, lt)

again : (old more : List Met) (m : Met) → (old ++ more) ++ m ∷ [] ≡ old ++ (more ++ m ∷ [])
again old more m = append_assoc old more (m ∷ [])

one : (next now : Option LinedUnit) (passed now_passed : ℕ) (number : Option ℕ) (old_next : Option LinedUnit) (old_passed : ℕ) (old more : List Met) (x : LinedUnit) → now ≡ Some x → passed ≤ now_passed + 1 → lies_ahead number now_passed ≡ true
    → Going now now_passed number old_next old_passed old more → Going next passed number old_next old_passed old (more ++ record { lined = x; paired = false } ∷ [])
one next now passed now_passed number old_next old_passed old more x is le test h = let m : Met = record { lined = x; paired = false } in record {
  unpaired = each_append (λ (m : Met). m.paired ≡ false) more (m ∷ []) h.unpaired (refl, tt);
  low = λ n e low. let lt = ahead number n now_passed e test in omega (arith, le, lt);
  back = λ all k. h.back all (back_one next now (lined_of (old ++ more)) x all is (subst (λ xs. MayBe next xs all) (ap lined_of (sym (again old more m)) ∙ lined_push (old ++ more) m) k));
}

ended : (number : Option ℕ) (p : ℕ) → lies_ahead number p ≡ false → (n : ℕ) × (number ≡ Some n) × (n ≤ p)
ended None p h = cc
ended (Some n) p h = let t : nat_lt p n ≡ false = h in (n, refl, grind (arith, nat_tests))

stopped : (next : Option LinedUnit) (passed : ℕ) (number : Option ℕ) (old_next : Option LinedUnit) (old_passed : ℕ) (old more : List Met) → Going next passed number old_next old_passed old more
    → (next ≡ None) → GoesTo next passed number old_next old_passed old more
stopped next passed number old_next old_passed old more h is = record { unpaired = h.unpaired; stops = inl is; low = h.low; back = h.back }

arrived : (next : Option LinedUnit) (passed : ℕ) (number : Option ℕ) (old_next : Option LinedUnit) (old_passed : ℕ) (old more : List Met) → Going next passed number old_next old_passed old more
    → lies_ahead number passed ≡ false → GoesTo next passed number old_next old_passed old more
arrived next passed number old_next old_passed old more h is = record { unpaired = h.unpaired; stops = inr (ended number passed is); low = h.low; back = h.back }

-- this holds of units so far, behind others
pub record Gone (Holds : List Met → Type 0) (old : UnitCursor) (old_passed : ℕ) (ms : List Met) (number : Option ℕ) (now : UnitCursor) (passed : ℕ) : Type 0 where
  pub more : List Met
  pub holds : Holds (ms ++ more)
  pub going : Going (current now) passed number (current old) old_passed ms more

pub gone_none : (Holds : List Met → Type 0) (old : UnitCursor) (old_passed : ℕ) (ms : List Met) (number : Option ℕ) → Holds ms → Gone Holds old old_passed ms number old old_passed
gone_none Holds old old_passed ms number h = record { more = []; holds = subst Holds (sym (append-nil ms)) h; going = none (current old) old_passed number ms }

module _ {Holds : List Met → Type 0} {old : UnitCursor} {old_passed : ℕ} {ms : List Met} {number : Option ℕ} {now : UnitCursor} {passed : ℕ} (h : Gone Holds old old_passed ms number now passed) where
  pub gone_one : (HoldsNext : List Met → Type 0) (new : UnitCursor) (new_passed : ℕ) (x : LinedUnit) → current now ≡ Some x → new_passed ≤ passed + 1 → lies_ahead number passed ≡ true → HoldsWith HoldsNext now (ms ++ h.more) false
      → Gone HoldsNext old old_passed ms number new new_passed
  gone_one HoldsNext new new_passed x is le test next = let m : Met = record { lined = x; paired = false } in record {
    more = h.more ++ m ∷ [];
    holds = subst HoldsNext (again ms h.more m) (next x is);
    going = one (current new) (current now) new_passed passed number (current old) old_passed ms h.more x is le test h.going;
  }

  pub gone_end : current now ≡ None → GoneTo Holds old old_passed ms number now passed
  gone_end is = record { more = h.more; holds = h.holds; goes = stopped (current now) passed number (current old) old_passed ms h.more h.going is }

  pub gone_to : lies_ahead number passed ≡ false → GoneTo Holds old old_passed ms number now passed
  gone_to is = record { more = h.more; holds = h.holds; goes = arrived (current now) passed number (current old) old_passed ms h.more h.going is }
