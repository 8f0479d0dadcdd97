-- Which address is a beginning of which.
use Rattle.std.proofs.Common.{◌≡◌, ◌∙◌, ℕ, zero, suc, ◌+◌, ◌<◌, Bool, true, false, ◌&&◌, [], ◌∷◌, length, drop, get_or, refl, ap, sym, subst, arith}
use Rattle.std.proofs.Math.Bool.{and-false}
use Rattle.std.proofs.lemmas.Bool.{false≢true}
use Rattle.toml_names.specs.declared.model.address.Step.{Step}
use Rattle.toml_names.specs.model.Addresses.{Address, same_step}
use Rattle.toml_working.proofs.Out.{dropped}
use Rattle.toml_names.proofs.Proved.{same_step-equal, same_step-self}
use Rattle.toml_layout.specs.Beginnings.{begins}

pub begins_self : (a : Address) → begins a a ≡ true
begins_self [] = refl
begins_self (s ∷ a) = ap (λ r. r && begins a a) (same_step-self s) ∙ begins_self a

-- what is not so stays not so beside anything
pub still_off : (c a b : Bool) → (a ≡ false → b ≡ false) → (c && a) ≡ false → (c && b) ≡ false
still_off true a b later off = later off
still_off false a b later off = refl

pub begins_short : (a b : Address) → length b < length a → begins a b ≡ false
begins_short [] b h = absurd (omega (arith, h))
begins_short (s ∷ a) [] h = refl
begins_short (s ∷ a) (t ∷ b) h = ap (λ r. same_step s t && r) (begins_short a b (omega (arith, h))) ∙ and-false (same_step s t)

-- by the steps at a place and those behind it
pub begins_at : (a b : Address) (i : ℕ) (s t : Step) → i < length a → i < length b → s ≡ get_or a i s → t ≡ get_or b i t
    → begins (drop i a) (drop i b) ≡ (same_step s t && begins (drop (i + 1) a) (drop (i + 1) b))
begins_at a b i s t low high is there =
    ap (λ l. begins l (drop i b)) (dropped a i s low is) ∙ ap (λ l. begins (s ∷ drop (i + 1) a) l) (dropped b i t high there)

pub begins_apart : (a b : Address) (i : ℕ) → begins (drop i a) (drop i b) ≡ false → begins a b ≡ false
begins_apart a b zero h = h
begins_apart [] b (suc i) h = cc
begins_apart (s ∷ a) [] (suc i) h = refl
begins_apart (s ∷ a) (t ∷ b) (suc i) h = ap (λ r. same_step s t && r) (begins_apart a b i h) ∙ and-false (same_step s t)

-- the order of two steps does not count
pub step_other : (s t : Step) → same_step s t ≡ same_step t s
step_other s t = by (same_step s t) (same_step t s) refl refl
  where
    by : (a b : Bool) → same_step s t ≡ a → same_step t s ≡ b → same_step s t ≡ same_step t s
    by true true h k = h ∙ sym k
    by false false h k = h ∙ sym k
    by true false h k = let e = same_step-equal s t h in absurd (false≢true (sym k ∙ subst (λ x. same_step x s ≡ true) e (same_step-self s)))
    by false true h k = let e = same_step-equal t s k in absurd (false≢true (sym h ∙ subst (λ x. same_step x t ≡ true) e (same_step-self t)))
