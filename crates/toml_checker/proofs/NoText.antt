-- Newlines of no bytes.
use Rattle.std.proofs.Common.{◌≡◌, ◌↔◌, ◌||◌, ◌⊎◌, inl, inr, Bool, true, false, ℕ, List, [], ◌∷◌, refl}
use Rattle.std.specs.Prelude.{IsTrue}
use Rattle.toml_checker.specs.Added.{has_no_bytes}

pub none_is : (xs : List ℕ) → (has_no_bytes xs ≡ true) ↔ (xs ≡ [])
none_is [] = ((λ e. refl), (λ e. refl))
none_is (x ∷ xs) = ((λ e. cc), (λ e. cc))

pub either : (a b c : Bool) (P : Type 0) → IsTrue a ↔ P → (xs ys : List ℕ) → b ≡ has_no_bytes xs → c ≡ has_no_bytes ys → IsTrue ((a || b) || c) ↔ (P ⊎ (xs ≡ []) ⊎ (ys ≡ []))
either true b c P h xs ys e f = ((λ t. inl (h.0 refl)), (λ w. refl))
either false true c P h xs ys e f = let n = (none_is xs).0 in ((λ t. inr (inl (n (let s : has_no_bytes xs ≡ true = cc in s)))), (λ w. refl))
either false false true P h xs ys e f = let n = (none_is ys).0 in ((λ t. inr (inr (n (let s : has_no_bytes ys ≡ true = cc in s)))), (λ w. refl))
either false false false P h xs ys e f = (
  (λ t. cc),
  (λ w. elim w [
    | inl p ↦ h.1 p
    | inr o ↦ elim o [ inl n ↦ (let s = (none_is xs).1 n in cc) | inr n ↦ (let s = (none_is ys).1 n in cc) ]
  ]),
)
