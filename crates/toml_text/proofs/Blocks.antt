-- A run of bytes that pass a test, seen a block at a time through the mask of those that fail it.
use Rattle.std.proofs.Common.{◌≡◌, ℕ, ◌+◌, ◌*◌, ◌<◌, ◌≤◌, Bool, true, false, not, cond, eqb, List, [], ◌∷◌, map, length, drop, refl, sym, ap, ap₂, ◌∙◌, arith}
use Rattle.std.proofs.lemmas.Bool.{eq-eqb, ne_eqb}
use Rattle.std.proofs.lemmas.List.{length-drop}
use Rattle.std.proofs.lemmas.List.Folds.{prefix_len-append}
use Rattle.std.proofs.lemmas.List.Sums.{prefix_len-le-length}
use Rattle.std.proofs.lemmas.Simd.{chunk-drop, length-chunk, leading_from_mask_l, trailing_mask_l}
use Rattle.std.specs.List.{prefix_len}
use lib.Lanes.{chunk, mask_l}
use lib.Count.{count_trailing_zeros}
use Rattle.toml_text.specs.Runs.{run_len}
use Rattle.toml_text.proofs.Runs.{run_len-le}

pub not-not : (b : Bool) → b ≡ not (not b)
not-not true = refl
not-not false = refl

none_fails : (b : Bool) (n l m : ℕ) → n ≤ l → cond (not b) (1 + n) 0 ≡ 1 + l → (n ≡ l → m ≡ 0) → cond b 1 0 + 2 * m ≡ 0
none_fails true n l m le e ih = let no : ⊥ = omega arith in absurd no
none_fails false n l m le e ih = let z = ih (omega arith) in omega arith

module _ (p fails : ℕ → Bool) (opposite : (x : ℕ) → p x ≡ not (fails x)) where
  same_run : (xs : List ℕ) → run_len p xs ≡ prefix_len (λ x. not (fails x)) xs
  same_run [] = refl
  same_run (x ∷ xs) = ap₂ (λ b n. cond b n 0) (opposite x) (omega (arith, same_run xs))

  all_pass : (xs : List ℕ) → prefix_len (λ x. not (fails x)) xs ≡ length xs → mask_l (map fails xs) ≡ 0
  all_pass [] e = refl
  all_pass (x ∷ xs) e = none_fails (fails x) _ (length xs) _ (prefix_len-le-length (λ y. not (fails y)) xs) (omega arith) (all_pass xs)

  split : (bs : List ℕ) (i n : ℕ) → run_len p (drop i bs) ≡ cond (eqb (prefix_len (λ x. not (fails x)) (chunk i n bs)) (length (chunk i n bs))) (length (chunk i n bs) + run_len p (drop (i + n) bs)) (prefix_len (λ x. not (fails x)) (chunk i n bs))
  split bs i n =
      let c = chunk i n bs in
      let q : ℕ → Bool = λ x. not (fails x) in
      same_run (drop i bs) ∙ ap (prefix_len q) (chunk-drop i n bs) ∙ prefix_len-append q c (drop (i + n) bs)
      ∙ ap (λ r. cond (eqb (prefix_len q c) (length c)) (length c + r) (prefix_len q c)) (sym (same_run (drop (i + n) bs)))

  -- where no bit is set, the run goes on behind the block
  pub run_through : (bs : List ℕ) (i n : ℕ) → i + n ≤ length bs → mask_l (map fails (chunk i n bs)) ≡ 0 → run_len p (drop i bs) ≡ n + run_len p (drop (i + n) bs)
  run_through bs i n room none =
      let c = chunk i n bs in
      split bs i n
      ∙ ap (λ b. cond b (length c + run_len p (drop (i + n) bs)) (prefix_len (λ x. not (fails x)) c)) (eq-eqb _ _ (leading_from_mask_l fails c none))
      ∙ ap (λ k. k + run_len p (drop (i + n) bs)) (length-chunk i n bs room)

  -- the lowest bit that is set is where the run ends
  pub run_ends : (bs : List ℕ) (i n : ℕ) → i + n ≤ length bs → n ≤ 64 → 0 < mask_l (map fails (chunk i n bs)) → run_len p (drop i bs) ≡ count_trailing_zeros 64 (mask_l (map fails (chunk i n bs)))
  run_ends bs i n room short some =
      let c = chunk i n bs in
      split bs i n
      ∙ ap (λ b. cond b (length c + run_len p (drop (i + n) bs)) (prefix_len (λ x. not (fails x)) c)) (ne_eqb _ _ (λ (e : prefix_len (λ x. not (fails x)) c ≡ length c). omega (arith, all_pass c e)))
      ∙ sym (trailing_mask_l fails 64 c (omega (arith, length-chunk i n bs room)) some)

pub run_bound : (p : ℕ → Bool) (bs : List ℕ) (i : ℕ) → i ≤ length bs → i + run_len p (drop i bs) ≤ length bs
run_bound p bs i h = omega (arith, run_len-le p (drop i bs), length-drop i bs)
