-- What is found of units behind one unit more.
use Rattle.std.proofs.Common.{◌≡◌, ◌↔◌, ◌⊎◌, inl, inr, ℕ, zero, suc, Bool, true, false, if◌then◌else◌, List, [], ◌∷◌, ◌++◌, length, Option, Some, None, refl, sym, ap, subst, ◌∙◌, arith, append_assoc}
use Rattle.std.proofs.lemmas.List.{length-map}
use Rattle.toml_tree.specs.Spells.{EachIs}
use Rattle.toml_edits.specs.Edits.{Change}
use Rattle.toml_units.specs.Lined.{LinedUnit}
use Rattle.toml_units.specs.View.{Spanned}
use Rattle.toml_checker.specs.declared.kept.Kept.{Kept}
use Rattle.toml_checker.specs.Added.{is_new, new_from, reach_from}
use Rattle.toml_checker.specs.Marks.{IsSet, reach_with}
use Rattle.toml_checker.specs.Traces.{MayBe, Met, kept_from, kept_with, lined_of, paired_of}

pub kept_push : (cs : List Change) (k : Kept) (ms : List Met) (m : Met) → kept_from cs k (ms ++ m ∷ []) ≡ kept_with cs (kept_from cs k ms) m.lined.unit m.paired
kept_push cs k [] m = refl
kept_push cs k (x ∷ ms) m = kept_push cs (kept_with cs k x.lined.unit x.paired) ms m

pub reach_push : (r : Option ℕ) (ms : List Met) (m : Met) → reach_from r (ms ++ m ∷ []) ≡ reach_with (reach_from r ms) m.paired m.lined.unit.stop
reach_push r [] m = refl
reach_push r (x ∷ ms) m = reach_push (reach_with r x.paired x.lined.unit.stop) ms m

-- a unit more, if it is new
abbrev pub one_new : Bool → Met → List Spanned
one_new true m = m.lined.unit ∷ []
one_new false m = []

new_one : (b : Bool) (m : Met) (rest : List Spanned) → rest ≡ [] → (if b then m.lined.unit ∷ rest else rest) ≡ one_new b m
new_one true m rest e = ap (λ us. m.lined.unit ∷ us) e
new_one false m rest e = e

new_more : (b : Bool) (u : Spanned) (xs ys zs : List Spanned) → xs ≡ ys ++ zs → (if b then u ∷ xs else xs) ≡ (if b then u ∷ ys else ys) ++ zs
new_more true u xs ys zs e = ap (λ us. u ∷ us) e
new_more false u xs ys zs e = e

pub new_push : (r : Option ℕ) (ms : List Met) (m : Met) → new_from r (ms ++ m ∷ []) ≡ new_from r ms ++ one_new (is_new (reach_from r ms) m) m
new_push r [] m = new_one (is_new r m) m [] refl
new_push r (x ∷ ms) m = new_more (is_new r x) x.lined.unit _ _ _ (new_push (reach_with r x.paired x.lined.unit.stop) ms m)

pub lined_push : (ms : List Met) (m : Met) → lined_of (ms ++ m ∷ []) ≡ lined_of ms ++ m.lined ∷ []
lined_push [] m = refl
lined_push (x ∷ ms) m = ap (λ xs. x.lined ∷ xs) (lined_push ms m)

pub lined_append : (ms ns : List Met) → lined_of (ms ++ ns) ≡ lined_of ms ++ lined_of ns
lined_append [] ns = refl
lined_append (x ∷ ms) ns = ap (λ xs. x.lined ∷ xs) (lined_append ms ns)

pub paired_append : (ms ns : List Met) → paired_of (ms ++ ns) ≡ paired_of ms ++ paired_of ns
paired_append [] ns = refl
paired_append (x ∷ ms) ns = ap (λ xs. x.paired ∷ xs) (paired_append ms ns)

-- each of two lists, and one more
pub each_append : {A : Type 0} (P : A → Type 0) (xs ys : List A) → EachIs P xs → EachIs P ys → EachIs P (xs ++ ys)
each_append P [] ys h k = k
each_append P (x ∷ xs) ys h k = (h.0, each_append P xs ys h.1 k)

pub each_front : {A : Type 0} (P : A → Type 0) (xs ys : List A) → EachIs P (xs ++ ys) → EachIs P xs
each_front P [] ys h = tt
each_front P (x ∷ xs) ys h = (h.0, each_front P xs ys h.1)

pub each_back : {A : Type 0} (P : A → Type 0) (xs ys : List A) → EachIs P (xs ++ ys) → EachIs P ys
each_back P [] ys h = h
each_back P (x ∷ xs) ys h = each_back P xs ys h.1

-- what may be all behind one unit more may be so before it
pub back_one : (next old : Option LinedUnit) (past : List LinedUnit) (x : LinedUnit) (all : List LinedUnit) → old ≡ Some x → MayBe next (past ++ x ∷ []) all → MayBe old past all
back_one next old past x all is h = subst (λ (o : Option LinedUnit). MayBe o past all) (sym is) (by next h)
  where
    by : (o : Option LinedUnit) → MayBe o (past ++ x ∷ []) all → MayBe (Some x) past all
    by None e = ([], e)
    by (Some y) (more, e) = (y ∷ more, e ∙ append_assoc past (x ∷ []) (y ∷ more))

-- units that are not paired have no mark
pub unmarked_set : (ms : List Met) → EachIs (λ (m : Met). m.paired ≡ false) ms → (i : ℕ) → ¬ (IsSet (paired_of ms) i)
unmarked_set [] h i s = cc
unmarked_set (m ∷ ms) h zero s = let e = h.0 in cc
unmarked_set (m ∷ ms) h (suc i) s = unmarked_set ms h.1 i s

pub set_append : (xs ys : List Bool) → ((i : ℕ) → ¬ (IsSet ys i)) → (i : ℕ) → IsSet (xs ++ ys) i ↔ IsSet xs i
set_append [] ys none i = ((λ s. absurd (none i s)), (λ s. cc))
set_append (x ∷ xs) ys none zero = ((λ s. s), (λ s. s))
set_append (x ∷ xs) ys none (suc i) = set_append xs ys none i

-- units behind others that are not paired
pub same_marks : (ms more : List Met) → EachIs (λ (m : Met). m.paired ≡ false) more → (i : ℕ) → IsSet (paired_of (ms ++ more)) i ↔ IsSet (paired_of ms) i
same_marks ms more h i = subst (λ (bs : List Bool). IsSet bs i ↔ IsSet (paired_of ms) i) (sym (paired_append ms more)) (set_append (paired_of ms) (paired_of more) (unmarked_set more h) i)

-- what the marks tell before such units they tell behind them
pub marks_still : (P : ℕ → Type 0) (ms more : List Met) → EachIs (λ (m : Met). m.paired ≡ false) more → ((i : ℕ) → IsSet (paired_of ms) i ↔ P i) → (i : ℕ) → IsSet (paired_of (ms ++ more)) i ↔ P i
marks_still P ms more none h i = let s = same_marks ms more none i in ((λ p. (h i).0 (s.0 p)), (λ q. s.1 ((h i).1 q)))

set_last : (xs : List Bool) (i : ℕ) → IsSet (xs ++ true ∷ []) i ↔ (IsSet xs i ⊎ (length xs ≡ i))
set_last [] zero = ((λ s. inr refl), (λ w. refl))
set_last [] (suc i) = ((λ s. cc), (λ w. elim w [ inl s ↦ cc | inr e ↦ absurd (omega (arith, e)) ]))
set_last (x ∷ xs) zero = ((λ s. inl s), (λ w. elim w [ inl s ↦ s | inr e ↦ absurd (omega (arith, e)) ]))
set_last (x ∷ xs) (suc i) = let h = set_last xs i in (
  (λ s. elim (h.0 s) [ inl p ↦ inl p | inr e ↦ inr (ap suc e) ]),
  (λ w. elim w [ inl p ↦ h.1 (inl p) | inr e ↦ h.1 (inr (omega (arith, e))) ]),
)

pub last_mark : (ms : List Met) (x : LinedUnit) (i : ℕ) → IsSet (paired_of (ms ++ record { lined = x; paired = true } ∷ [])) i ↔ (IsSet (paired_of ms) i ⊎ (length ms ≡ i))
last_mark ms x i =
    subst (λ (bs : List Bool). IsSet bs i ↔ (IsSet (paired_of ms) i ⊎ (length ms ≡ i))) (sym (paired_append ms (record { lined = x; paired = true } ∷ [])))
    (subst (λ (n : ℕ). IsSet (paired_of ms ++ true ∷ []) i ↔ (IsSet (paired_of ms) i ⊎ (n ≡ i))) (length-map ms (λ (m : Met). m.paired)) (set_last (paired_of ms) i))
