-- Which units of a list end no further than a marked one at or before them, found in one walk.
use Rattle.std.proofs.Common.{◌≡◌, ℕ, zero, suc, ◌+◌, ◌<◌, ◌↔◌, Bool, true, false, List, [], ◌∷◌, length, get_or, Option, None, refl, sym, ap, subst, ◌∙◌, arith, add-zero, zero-add}
use Rattle.std.proofs.lemmas.Option.{none-some}
use Rattle.toml_checker.specs.Marks.{IsSet, IsHeld, reach_with, reaches}
use Rattle.toml_checker.proofs.Reach.{Reached, reached_more, held_here}

-- of units that end there, behind what is reached, whether each is reached
abbrev pub covers_from : Option ℕ → List ℕ → List Bool → List Bool
covers_from reach (e ∷ ends) (m ∷ marks) = reaches (reach_with reach m e) e ∷ covers_from (reach_with reach m e) ends marks
covers_from reach _ _ = []

pub as_many_covers : (reach : Option ℕ) (ends : List ℕ) (marks : List Bool) → length marks ≡ length ends
    → length (covers_from reach ends marks) ≡ length ends
as_many_covers reach [] marks long = refl
as_many_covers reach (e ∷ ends) [] long = absurd (omega arith)
as_many_covers reach (e ∷ ends) (m ∷ marks) long = ap suc (as_many_covers (reach_with reach m e) ends marks (omega arith))

-- the same of the last units of a list
module _ (all : List ℕ) (on : List Bool) where
  shift : (n i : ℕ) → n + suc i ≡ (n + 1) + i
  shift n i = omega arith

  reach_more : (n : ℕ) (reach : Option ℕ) (e : ℕ) (m : Bool) → Reached all on n reach → get_or all n 0 ≡ e → get_or on n false ≡ m
      → Reached all on (n + 1) (reach_with reach m e)
  reach_more n reach e m h end mark = subst (λ x. Reached all on (n + 1) (reach_with reach m x)) end (reached_more all on n reach m mark h)

  covered_here : (n : ℕ) (reach : Option ℕ) (e : ℕ) → Reached all on (n + 1) reach → get_or all n 0 ≡ e
      → (reaches reach e ≡ true) ↔ IsHeld all on (n + 0)
  covered_here n reach e h end =
      subst (λ i. (reaches reach e ≡ true) ↔ IsHeld all on i) (sym (add-zero n)) (subst (λ x. (reaches reach x ≡ true) ↔ IsHeld all on n) end (held_here all on n reach h))

  first : {A : Type 0} (f : ℕ → A) (x : A) (n : ℕ) → x ≡ f (n + 0) → f n ≡ x
  first f x n e = ap f (sym (add-zero n)) ∙ sym e

  covered_from : (n : ℕ) (reach : Option ℕ) → Reached all on n reach → (ends : List ℕ) (marks : List Bool) → length marks ≡ length ends
      → ((i : ℕ) → get_or ends i 0 ≡ get_or all (n + i) 0) → ((i : ℕ) → get_or marks i false ≡ get_or on (n + i) false)
      → (k : ℕ) → k < length ends → IsSet (covers_from reach ends marks) k ↔ IsHeld all on (n + k)
  covered_from n reach h [] marks long same_ends same_marks k low = absurd (omega arith)
  covered_from n reach h (e ∷ ends) [] long same_ends same_marks k low = absurd (omega arith)
  covered_from n reach h (e ∷ ends) (m ∷ marks) long same_ends same_marks zero low =
      let end = first (λ i. get_or all i 0) e n (same_ends 0) in
      covered_here n (reach_with reach m e) e (reach_more n reach e m h end (first (λ i. get_or on i false) m n (same_marks 0))) end
  covered_from n reach h (e ∷ ends) (m ∷ marks) long same_ends same_marks (suc k) low =
      let end = first (λ i. get_or all i 0) e n (same_ends 0) in
      let more = reach_more n reach e m h end (first (λ i. get_or on i false) m n (same_marks 0)) in
      subst (λ j. IsSet (covers_from (reach_with reach m e) ends marks) k ↔ IsHeld all on j) (sym (shift n k))
      (covered_from (n + 1) (reach_with reach m e) more ends marks (omega arith) (λ j. same_ends (suc j) ∙ ap (λ x. get_or all x 0) (shift n j)) (λ j. same_marks (suc j) ∙ ap (λ x. get_or on x false) (shift n j)) k (omega arith))

  nothing : Reached all on 0 None
  nothing = record {
    best = λ r e. absurd (none-some r e);
    bound = λ j low p. absurd (omega arith);
  }

  pub covered : length on ≡ length all → (k : ℕ) → k < length all → IsSet (covers_from None all on) k ↔ IsHeld all on k
  covered long k low =
      subst (λ i. IsSet (covers_from None all on) k ↔ IsHeld all on i) (zero-add k)
      (covered_from 0 None nothing all on long (λ i. ap (λ x. get_or all x 0) (sym (zero-add i))) (λ i. ap (λ x. get_or on x false) (sym (zero-add i))) k low)
