-- Where a place may be cut: at its front, behind one ASCII byte, behind a numeral.
use Rattle.std.proofs.Common.{◌≡◌, ℕ, zero, suc, ◌+◌, ◌<◌, Bool, true, false, cond, eqb, List, [], ◌∷◌, length, drop, get_or, IsUtf8, IsCharBoundary, refl, ap, arith}
use Rattle.std.proofs.lemmas.Bool.{eqb-true}
use Rattle.std.proofs.lemmas.Bool.Decides.{nat_tests}
use Rattle.std.proofs.lemmas.Str.{IsCharBoundary-start, IsCharBoundary-from_rest, IsUtf8-drop, IsUtf8-from_is_utf8}
use Rattle.std.proofs.iter.AsciiBoundary.{after_IsAscii}
use Rattle.toml_text.specs.Bytes.{is_digit}
use Rattle.toml_text.specs.Limit.{IsText}
use Rattle.toml_text.specs.Runs.{run_len, begins, is_byte}
use Rattle.toml_places.specs.Reading.{numeral_len}
use Rattle.toml_places.proofs.Sound.{begins_is}
use Rattle.toml_places.proofs.Within.{numeral_within}

pub front : (text : List ℕ) → IsText text → IsCharBoundary text 0
front text is_text = IsCharBoundary-start text (IsUtf8-from_is_utf8 text is_text.utf8)

digit_ascii : (b : ℕ) → is_digit b ≡ true → b < 128
digit_ascii b h = grind (arith, nat_tests)

-- the last byte of a run of digits is ASCII
run_ascii : (bs : List ℕ) (i : ℕ) → i < run_len is_digit bs → get_or bs i 0 < 128
run_ascii [] i h = absurd (omega arith)
run_ascii (b ∷ bs) i h = by (is_digit b) refl i h (run_ascii bs)
  where
    by : (t : Bool) → is_digit b ≡ t → (k : ℕ) → k < cond t (run_len is_digit bs + 1) 0 → ((j : ℕ) → j < run_len is_digit bs → get_or bs j 0 < 128) → get_or (b ∷ bs) k 0 < 128
    by true digit zero low more = digit_ascii b digit
    by true digit (suc k) low more = more k (omega arith)
    by false other k low more = absurd (omega arith)

numeral_ascii : (bs : List ℕ) (i : ℕ) → i < numeral_len bs → get_or bs i 0 < 128
numeral_ascii [] i h = absurd (omega arith)
numeral_ascii (b ∷ bs) i h = elim (eqb b 0x30) as (λ t. eqb b 0x30 ≡ t → i < cond t 1 (run_len is_digit (b ∷ bs)) → get_or (b ∷ bs) i 0 < 128) [
  | true ↦ λ zero_is low. first i (eqb-true b 0x30 zero_is) low
  | false ↦ λ other low. run_ascii (b ∷ bs) i low
] refl h
  where
    first : (k : ℕ) → b ≡ 0x30 → k < 1 → get_or (b ∷ bs) k 0 < 128
    first zero is low = omega arith
    first (suc k) is low = absurd (omega arith)

module _ (text : List ℕ) (at : ℕ) (is_text : IsText text) (bound : IsCharBoundary text at) where
  utf8 : IsUtf8 (drop at text)
  utf8 = IsUtf8-drop text at (IsUtf8-from_is_utf8 text is_text.utf8) bound

  pub behind_byte : (x : ℕ) → x < 128 → begins (is_byte x) (drop at text) ≡ true → IsCharBoundary text (at + 1)
  behind_byte x ascii here =
      let is = begins_is x (drop at text) here in
      IsCharBoundary-from_rest text at 1 bound.0 (after_IsAscii (drop at text) 1 utf8 (omega (arith, ap length is)) (λ _. rw is ascii))

  pub behind_numeral : (n : ℕ) → n ≡ numeral_len (drop at text) → IsCharBoundary text (at + n)
  behind_numeral n is =
      IsCharBoundary-from_rest text at n bound.0
      (after_IsAscii (drop at text) n utf8 (omega (arith, is, numeral_within (drop at text))) (λ some. numeral_ascii (drop at text) _ (omega (arith, is))))
