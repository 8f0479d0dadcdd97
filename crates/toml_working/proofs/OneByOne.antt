-- Lists whose elements change one after the other.
use Rattle.std.proofs.Common.{◌≡◌, ◌∙◌, ℕ, zero, suc, ◌+◌, ◌<◌, ◌≤◌, true, false, List, [], ◌∷◌, length, get_or, set, Some, None, ap, sym, subst, arith}
use Rattle.std.specs.declared.alloc.Global.{Global}
use Rattle.std.specs.declared.vec.Vec.{Vec}
use Rattle.std.proofs.lemmas.Option.{none-some, same_Some, slice_get-get_or, slice_get_past}
use Rattle.std.specs.Prelude.{slice_get}
use Rattle.toml_working.specs.Together.{GoTogether}
use Rattle.toml_working.proofs.Past.{past_end}

module _ {A : Type 0} (R : A → A → Type 0) where
  -- so many are changed, and the others are as they were
  abbrev pub SoFar : ℕ → List A → List A → Type 0
  SoFar zero old now = now ≡ old
  SoFar (suc i) [] [] = Unit {0}
  SoFar (suc i) (x ∷ old) (y ∷ now) = R x y × SoFar i old now
  SoFar (suc i) _ _ = ⊥

  one_on : (i : ℕ) (old now : List A) (x y : A) → SoFar i old now → slice_get now i ≡ Some x → R x y → SoFar (suc i) old (set now i y)
  one_on zero [] [] x y so_far there one = absurd (none-some x there)
  one_on zero [] (b ∷ now) x y so_far there one = cc
  one_on zero (a ∷ old) [] x y so_far there one = absurd (none-some x there)
  one_on zero (a ∷ old) (b ∷ now) x y so_far there one =
      let same : b ≡ x = same_Some b x there in
      let first : b ≡ a = cc in
      let rest : now ≡ old = cc in
      (subst (λ z. R z y) (sym same ∙ first) one, rest)
  one_on (suc i) [] [] x y so_far there one = absurd (none-some x there)
  one_on (suc i) [] (b ∷ now) x y so_far there one = absurd so_far
  one_on (suc i) (a ∷ old) [] x y so_far there one = absurd so_far
  one_on (suc i) (a ∷ old) (b ∷ now) x y so_far there one = (so_far.0, one_on i old now x y so_far.1 there one)

  none_on : (i : ℕ) (old now : List A) → SoFar i old now → slice_get now i ≡ None → SoFar (suc i) old now
  none_on zero [] [] so_far none = tt
  none_on zero [] (b ∷ now) so_far none = absurd (none-some b (sym none))
  none_on zero (a ∷ old) [] so_far none = cc
  none_on zero (a ∷ old) (b ∷ now) so_far none = absurd (none-some b (sym none))
  none_on (suc i) [] [] so_far none = tt
  none_on (suc i) [] (b ∷ now) so_far none = absurd so_far
  none_on (suc i) (a ∷ old) [] so_far none = absurd so_far
  none_on (suc i) (a ∷ old) (b ∷ now) so_far none = (so_far.0, none_on i old now so_far.1 none)

  next : (i : ℕ) → suc i ≡ i + 1
  next i = omega arith

  pub one_more : (i : ℕ) (old now : List A) (x y : A) → SoFar i old now → i < length now → x ≡ get_or now i x → R x y → SoFar (i + 1) old (set now i y)
  one_more i old now x y so_far low is one =
      subst (λ k. SoFar k old (set now i y)) (next i) (one_on i old now x y so_far (slice_get-get_or now i x low ∙ ap Some (sym is)) one)

  pub none_more : (i : ℕ) (old now : List A) → SoFar i old now → length now ≤ i → SoFar (i + 1) old now
  none_more i old now so_far past = subst (λ k. SoFar k old now) (next i) (none_on i old now so_far (slice_get_past now i past))

  -- the same of a vector, by what `get_mut` answers
  pub none_there : (i : ℕ) (old : List A) (now : Vec A Global) → SoFar i old now.items → (i < now.len → false ≡ true)
      → SoFar (i + 1) old now.items
  none_there i old now so_far none = none_more i old now.items so_far (past_end now.items now.len i now.ok.0 none)

  pub all_done : (i : ℕ) (old now : List A) → SoFar i old now → length old ≤ i → GoTogether R old now
  all_done zero [] [] so_far past = tt
  all_done zero [] (b ∷ now) so_far past = cc
  all_done zero (a ∷ old) now so_far past = absurd (omega (arith, past))
  all_done (suc i) [] [] so_far past = tt
  all_done (suc i) [] (b ∷ now) so_far past = absurd so_far
  all_done (suc i) (a ∷ old) [] so_far past = absurd so_far
  all_done (suc i) (a ∷ old) (b ∷ now) so_far past = (so_far.0, all_done i old now so_far.1 (omega (arith, past)))
