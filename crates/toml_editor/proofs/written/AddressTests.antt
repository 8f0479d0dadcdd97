-- The tests of addresses and of their steps.
use Rattle.std.proofs.Common.{◌≡◌, ◌∙◌, ℕ, ◌-◌, ◌≤◌, Bool, true, false, cond, ◌&&◌, List, [], ◌∷◌, ◌++◌, Some, None, refl, sym, ap, subst, arith}
use Rattle.std.specs.Bool.{nat_lt}
use Rattle.std.proofs.lemmas.Bool.{false≢true, true≢false}
use Rattle.std.proofs.lemmas.Bool.Decides.{nat_tests}
use Rattle.toml_names.specs.declared.model.address.Step.{Step}
use Rattle.toml_names.specs.declared.model.address.Step.TheVariants.{Name}
use Rattle.toml_names.specs.model.Addresses.{Address, same_step, same_address, is_above, child}
use Rattle.toml_names.proofs.Proved.{same_step-equal, same_step-self}
use Rattle.toml_layout.specs.RenamedPairs.{minus}
use Rattle.toml_editor.proofs.written.Clear.{above_true, differ}

pub step_other : (s t : Step) → same_step s t ≡ same_step t s
step_other s t = by (same_step s t) (same_step t s) refl refl
  where
    by : (a b : Bool) → same_step s t ≡ a → same_step t s ≡ b → same_step s t ≡ same_step t s
    by true true h k = h ∙ sym k
    by false false h k = h ∙ sym k
    by true false h k = let e = same_step-equal s t h in absurd (false≢true (sym k ∙ subst (λ x. same_step x s ≡ true) e (same_step-self s)))
    by false true h k = let e = same_step-equal t s k in absurd (false≢true (sym h ∙ subst (λ x. same_step x t ≡ true) e (same_step-self t)))

pub minus_some : (n m : ℕ) → m ≤ n → minus n m ≡ Some (n - m)
minus_some n m h = let e : nat_lt n m ≡ false = grind (arith, nat_tests) in ap (λ b. cond b None (Some (n - m))) e

still_off : (c a b : Bool) → (a ≡ false → b ≡ false) → (c && a) ≡ false → (c && b) ≡ false
still_off true a b later off = later off
still_off false a b later off = refl

nothing_above : (a : Address) → is_above a [] ≡ false
nothing_above [] = refl
nothing_above (s ∷ a) = refl

pub above_more : (a b p : Address) → is_above a p ≡ false → is_above (a ++ b) p ≡ false
above_more [] b [] off = nothing_above b
above_more [] b (t ∷ p) off = absurd (true≢false off)
above_more (s ∷ a) b [] off = refl
above_more (s ∷ a) b (t ∷ p) off = still_off (same_step s t) (is_above a p) (is_above (a ++ b) p) (above_more a b p) off

-- what follows the same steps
pub above_behind : (at a b : Address) → is_above (at ++ a) (at ++ b) ≡ is_above a b
above_behind [] a b = refl
above_behind (s ∷ at) a b = ap (λ c. c && is_above (at ++ a) (at ++ b)) (same_step-self s) ∙ above_behind at a b

pub same_behind : (at a b : Address) → same_address (at ++ a) (at ++ b) ≡ same_address a b
same_behind [] a b = refl
same_behind (s ∷ at) a b = ap (λ c. c && same_address (at ++ a) (at ++ b)) (same_step-self s) ∙ same_behind at a b

pub child_apart : (p at : Address) (n : List ℕ) → is_above at p ≡ false → same_address (child at n) p ≡ false
child_apart p at n off = differ (child at n) p (λ is. true≢false (sym (above_true at (child at n) (Name n, [], refl)) ∙ ap (is_above at) is ∙ off))
