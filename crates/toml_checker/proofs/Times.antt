-- How often texts stand in lists, and which lists have them.
use Rattle.std.proofs.Common.{◌≡◌, ℕ, zero, suc, ◌+◌, ◌<◌, Bool, true, false, cond, List, [], ◌∷◌, refl, sym, ap, ◌∙◌, arith}
use Rattle.std.specs.Str.{bytes_eq}
use Rattle.std.specs.Prelude.{Contains}
use Rattle.std.proofs.lemmas.List.Sums.{sum_by-cons}
use Rattle.std.proofs.lemmas.Slice.Eq.{bytes_eq-Decides}
use Rattle.toml_checker.specs.Comments.{times}
use Rattle.toml_checker.specs.Counts.{Text, plain, seen}

times-cons : (t x : List ℕ) (xs : List (List ℕ)) → times t (x ∷ xs) ≡ cond (bytes_eq t x) 1 0 + times t xs
times-cons t x xs = sum_by-cons (λ y. cond (bytes_eq t y) 1 0) x xs

seen-cons : (t : List ℕ) (x : Text) (xs : List Text) → seen t (x ∷ xs) ≡ cond (bytes_eq t x.now) 1 0 + seen t xs
seen-cons t x xs = sum_by-cons (λ (y : Text). cond (bytes_eq t y.now) 1 0) x xs

pub seen_is : (t : List ℕ) (xs : List Text) → seen t xs ≡ times t (plain xs)
seen_is t [] = refl
seen_is t (x ∷ xs) = seen-cons t x xs ∙ ap (λ n. cond (bytes_eq t x.now) 1 0 + n) (seen_is t xs) ∙ sym (times-cons t x.now (plain xs))

later : (xs : List (List ℕ)) (x t : List ℕ) → Contains xs t → Contains (x ∷ xs) t
later xs x t (k, low, is) = (suc k, omega arith, is)

pub has_some : (t : List ℕ) (xs : List (List ℕ)) → 0 < times t xs → Contains xs t
has_some t [] h = absurd (omega arith)
has_some t (x ∷ xs) h = by (bytes_eq t x) refl (has_some t xs)
  where
    by : (b : Bool) → bytes_eq t x ≡ b → (0 < times t xs → Contains xs t) → Contains (x ∷ xs) t
    by true e next = (0, omega arith, sym ((bytes_eq-Decides t x).0 e))
    by false e next = let n : times t (x ∷ xs) ≡ 0 + times t xs = times-cons t x xs ∙ ap (λ b. cond b 1 0 + times t xs) e in later xs x t (next (omega arith))

pub some_times : (t : List ℕ) (xs : List (List ℕ)) → Contains xs t → 0 < times t xs
some_times t [] (k, low, is) = absurd (omega arith)
some_times t (x ∷ xs) (zero, low, is) =
    let e : bytes_eq t x ≡ true = (bytes_eq-Decides t x).1 (sym is) in
    let n : times t (x ∷ xs) ≡ 1 + times t xs = times-cons t x xs ∙ ap (λ b. cond b 1 0 + times t xs) e in
    omega arith
some_times t (x ∷ xs) (suc k, low, is) =
    let more : 0 < times t xs = some_times t xs (k, omega arith, is) in
    let n = times-cons t x xs in
    omega arith
