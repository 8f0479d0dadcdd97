-- The furthest end of what is marked.
use Rattle.std.proofs.Common.{◌≡◌, ℕ, zero, suc, ◌<◌, ◌≤◌, ◌+◌, ◌↔◌, Bool, true, false, true≢false, not, ◌&&◌, List, [], ◌∷◌, ◌++◌, length, get_or, ap, Option, Some, None, ◌⊎◌, inl, inr, nat_le, below_more, refl, sym, ◌∙◌, subst, arith}
use Rattle.std.proofs.lemmas.Bool.Decides.{nat_tests}
use Rattle.std.proofs.lemmas.List.{get_or_append_left}
use Rattle.std.proofs.Math.Seq.{get_or-append_seam}
use Rattle.std.proofs.lemmas.Option.{none-some, same_Some}
use Rattle.toml_units.specs.declared.unit.Unit.{Unit as Made}
use Rattle.toml_units.specs.View.{all_units}
use Rattle.toml_checker.specs.Marks.{EndsWithin, IsSet, IsHeld, IsFree, stops, further, reach_with, reaches}

abbrev pub at : List ℕ → ℕ → ℕ
at ends j = get_or ends j 0

-- what is reached is the end of a marked one before the place, and none of these ends further
pub record Reached (ends : List ℕ) (marks : List Bool) (n : ℕ) (reach : Option ℕ) : Type 0 where
  pub best : (r : ℕ) → reach ≡ Some r → (j : ℕ) × (j < n) × IsSet marks j × (r ≡ at ends j)
  pub bound : (j : ℕ) → j < n → IsSet marks j → (r : ℕ) × (reach ≡ Some r) × (at ends j ≤ r)

unlike : (b : Bool) → b ≡ false → b ≡ true → ⊥
unlike b f t = cc

further_old : (far end : ℕ) → far ≤ further far end
further_old far end = grind (arith, nat_tests)

further_new : (far end : ℕ) → end ≤ further far end
further_new far end = grind (arith, nat_tests)

further_one : (far end : ℕ) (b : Bool) → nat_le end far ≡ b → (further far end ≡ end) ⊎ (further far end ≡ far)
further_one far end true e = inr (rw e refl)
further_one far end false e = inl (rw e refl)

not_before : (n j : ℕ) → j < n + 1 → (j < n) ⊎ (j ≡ n)
not_before n j h = by (nat_le n j) refl
  where
    by : (b : Bool) → nat_le n j ≡ b → (j < n) ⊎ (j ≡ n)
    by true e = let low : n ≤ j = grind (arith, nat_tests) in inr (omega arith)
    by false e = inl (grind (arith, nat_tests))

module _ (ends : List ℕ) (marks : List Bool) (n : ℕ) where
  same : (reach : Option ℕ) → get_or marks n false ≡ false → Reached ends marks n reach → Reached ends marks (n + 1) reach
  same reach is h = record {
    best = λ r e. let b = h.best r e in (b.0, omega arith, b.2, b.3);
    bound = below_more (λ j. IsSet marks j → (r : ℕ) × (reach ≡ Some r) × (at ends j ≤ r)) n h.bound (λ p. absurd (unlike _ is p));
  }

  first : get_or marks n false ≡ true → Reached ends marks n None → Reached ends marks (n + 1) (Some (at ends n))
  first is h = record {
    best = λ r e. (n, omega arith, is, sym (same_Some _ _ e));
    bound = below_more (λ j. IsSet marks j → (r : ℕ) × (Some (at ends n) ≡ Some r) × (at ends j ≤ r)) n (λ j low p. absurd (none-some _ (h.bound j low p).1)) (λ p. (at ends n, refl, omega arith));
  }

  more : (far : ℕ) → get_or marks n false ≡ true → Reached ends marks n (Some far) → Reached ends marks (n + 1) (Some (further far (at ends n)))
  more far is h = record {
    best = λ r e. by r (same_Some _ _ e) (further_one far (at ends n) (nat_le (at ends n) far) refl);
    bound = below_more (λ j. IsSet marks j → (r : ℕ) × (Some (further far (at ends n)) ≡ Some r) × (at ends j ≤ r)) n
        (λ j low p. let w = h.bound j low p in let e = same_Some _ _ w.1 in (further far (at ends n), refl, omega (arith, further_old far (at ends n), e, w.2)))
        (λ p. (further far (at ends n), refl, further_new far (at ends n)));
  }
    where
      by : (r : ℕ) → further far (at ends n) ≡ r → (further far (at ends n) ≡ at ends n) ⊎ (further far (at ends n) ≡ far) → (j : ℕ) × (j < n + 1) × IsSet marks j × (r ≡ at ends j)
      by r e (inl s) = (n, omega arith, is, sym e ∙ s)
      by r e (inr s) = let b = h.best far refl in (b.0, omega arith, b.2, sym e ∙ s ∙ b.3)

  pub reached_more : (reach : Option ℕ) (b : Bool) → get_or marks n false ≡ b → Reached ends marks n reach → Reached ends marks (n + 1) (reach_with reach b (at ends n))
  reached_more reach false is h = same reach is h
  reached_more None true is h = first is h
  reached_more (Some far) true is h = more far is h

  within : (reach : Option ℕ) → Reached ends marks (n + 1) reach → reaches reach (at ends n) ≡ true → IsHeld ends marks n
  within None h is = cc
  within (Some far) h is =
      let b = h.best far refl in
      let low : at ends n ≤ far = grind (arith, nat_tests) in
      let below : at ends n ≤ at ends b.0 = omega (arith, b.3) in
      by b.0 b.2 below (not_before n b.0 b.1)
    where
      by : (j : ℕ) → IsSet marks j → at ends n ≤ at ends j → (j < n) ⊎ (j ≡ n) → IsHeld ends marks n
      by j p le (inl low) = inr (j, low, p, le)
      by j p le (inr e) = inl (subst (IsSet marks) e p)

  low_reaches : (reach : Option ℕ) (r : ℕ) → reach ≡ Some r → at ends n ≤ r → reaches reach (at ends n) ≡ true
  low_reaches reach r e le = rw e (grind (arith, nat_tests))

  held_within : (reach : Option ℕ) → Reached ends marks (n + 1) reach → IsHeld ends marks n → reaches reach (at ends n) ≡ true
  held_within reach h (inl p) = let w = h.bound n (omega arith) p in low_reaches reach w.0 w.1 w.2
  held_within reach h (inr (j, low, p, le)) = let w = h.bound j (omega arith) p in low_reaches reach w.0 w.1 (omega (arith, w.2))

  pub held_here : (reach : Option ℕ) → Reached ends marks (n + 1) reach → (reaches reach (at ends n) ≡ true) ↔ IsHeld ends marks n
  held_here reach h = (within reach h, held_within reach h)

-- the same of what is reached before the unit
module _ (ends : List ℕ) (marks : List Bool) (n : ℕ) where
  within_before : (reach : Option ℕ) → Reached ends marks n reach → reaches reach (at ends n) ≡ true → EndsWithin ends marks n
  within_before None h is = cc
  within_before (Some far) h is =
      let b = h.best far refl in
      let low : at ends n ≤ far = grind (arith, nat_tests) in
      (b.0, b.1, b.2, omega (arith, b.3))

  before_within : (reach : Option ℕ) → Reached ends marks n reach → EndsWithin ends marks n → reaches reach (at ends n) ≡ true
  before_within reach h (j, low, p, le) = let w = h.bound j low p in low_reaches ends marks n reach w.0 w.1 (omega (arith, w.2, le))

  pub free_here : (reach : Option ℕ) (b r : Bool) → get_or marks n false ≡ b → reaches reach (at ends n) ≡ r → Reached ends marks n reach → ((b && not r) ≡ true) ↔ IsFree ends marks n
  free_here reach false r is e h = ((λ s. absurd (true≢false (sym s))), (λ p. absurd (unlike _ is p.0)))
  free_here reach true false is e h = ((λ s. (is, λ w. unlike _ e (before_within reach h w))), (λ p. refl))
  free_here reach true true is e h = ((λ s. absurd (true≢false (sym s))), (λ p. absurd (p.1 (within_before reach h e))))

-- One more mark at the end, behind those that say the same.
pub one_more : (P : ℕ → Type 0) (marks : List Bool) (b : Bool) (n : ℕ) → length marks ≡ n → ((k : ℕ) → k < n → IsSet marks k ↔ P k) → (b ≡ true) ↔ P n → (k : ℕ) → k < n + 1 → IsSet (marks ++ b ∷ []) k ↔ P k
one_more P marks b n long before here =
    below_more (λ k. IsSet (marks ++ b ∷ []) k ↔ P k) n
    (λ k low. let e = get_or_append_left marks (b ∷ []) false k (omega arith) in let w = before k low in ((λ s. w.0 (sym e ∙ s)), (λ p. e ∙ w.1 p)))
    (let e : get_or (marks ++ b ∷ []) n false ≡ b = subst (λ k. get_or (marks ++ b ∷ []) k false ≡ b) long (get_or-append_seam marks b [] false) in ((λ s. here.0 (sym e ∙ s)), (λ p. e ∙ here.1 p)))

-- the place behind a unit of the code
pub stop_of : (us : List Made) (i : ℕ) (u : Made) → i < length us → u ≡ get_or us i u → u.span.end ≡ at (stops (all_units us)) i
stop_of [] i u low is = absurd (omega arith)
stop_of (v ∷ us) zero u low is = ap (λ (x : Made). x.span.end) is
stop_of (v ∷ us) (suc i) u low is = stop_of us i u (omega arith) is
