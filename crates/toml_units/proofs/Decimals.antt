-- Numbers in decimal.
use Rattle.std.proofs.Common.{◌≡◌, ℕ, ◌+◌, ◌<◌, ◌^◌, suc, zero, true, false, Bool, List, [], ◌∷◌, ◌++◌, length, map, take, drop, refl, sym, ap, subst, ◌∙◌, arith, get_or}
use Rattle.std.specs.Char.{is_ascii_digit, digit_value}
use Rattle.std.specs.Int.{IsInRange}
use Rattle.std.specs.List.{prefix_len}
use Rattle.std.specs.Int.Digits.{digits_of, number_from_digits, AllBelowBase}
use Rattle.std.specs.Str.Parse.{digits_value}
use Rattle.std.proofs.lemmas.Bool.{ne_eqb}
use Rattle.std.proofs.lemmas.Bool.Decides.{nat_tests}
use Rattle.std.proofs.lemmas.Fmt.{decimal_digit, decimal-digits_of, decimal-digits_value}
use Rattle.std.proofs.lemmas.Int.Digits.{all_below_base_digits_of, first_digits_of, digits_value_is, number_digits_of}
use Rattle.std.proofs.lemmas.List.{take-append-drop}
use Rattle.std.proofs.lemmas.Str.{digit_value_digit}
use Rattle.std.proofs.lemmas.Str.Parse.{IsDigitsTest, digits_value_short, numerals_by_value}
use Rattle.toml_units.specs.Decimals.{AreDigits, number_text, IsPlain, BeginsWithNoDigit, BeginsWithNoNumber, NumbersAreDecimal}

text_of_zero : number_text 0 ≡ 0x30 ∷ []
unfolding number_text
text_of_zero = refl

text_of_some : (n : ℕ) → 0 < n → number_text n ≡ map (λ d. 48 + d) (digits_of 10 n)
unfolding number_text
text_of_some n some = rw (ne_eqb n 0 (λ e. omega (arith, e))) refl

is_digit : (d : ℕ) → d < 10 → is_ascii_digit (48 + d) ≡ true
is_digit d low = grind (arith, nat_tests)

from_digit : (b : ℕ) → is_ascii_digit b ≡ true → IsInRange 48 57 b
from_digit b h = (grind (arith, nat_tests), grind (arith, nat_tests))

to_digit : (b : ℕ) → IsInRange 48 57 b → is_ascii_digit b ≡ true
to_digit b h = let low = h.0 in let high = h.1 in grind (arith, nat_tests)

written_digits : (ds : List ℕ) → AllBelowBase 10 ds → AreDigits (map (λ d. 48 + d) ds)
written_digits [] h = tt
written_digits (d ∷ ds) h = (is_digit d h.0, written_digits ds h.1)

values_of_digits : (ds : List ℕ) → AllBelowBase 10 ds → map digit_value (map (λ d. 48 + d) ds) ≡ ds
values_of_digits [] h = refl
values_of_digits (d ∷ ds) h =
    let low : d < 10 = h.0 in
    let e = digit_value_digit (48 + d) (omega arith, omega arith) in
    let f : digit_value (48 + d) ≡ d = omega (arith, e) in
    λ i. f i ∷ values_of_digits ds h.1 i

-- the text of a number is digits,
pub number_digits : (n : ℕ) → AreDigits (number_text n)
number_digits zero = subst AreDigits (sym text_of_zero) (refl, tt)
number_digits (suc n) = subst AreDigits (sym (text_of_some (suc n) (omega arith))) (written_digits (digits_of 10 (suc n)) (all_below_base_digits_of 10 (suc n) (omega arith)))

-- of which there is one,
some_digits : (ds : List ℕ) → 0 < get_or ds 0 0 → 0 < length ds
some_digits [] h = h
some_digits (d ∷ ds) h = omega arith

length_written : (ds : List ℕ) → length (map (λ d. 48 + d) ds) ≡ length ds
length_written [] = refl
length_written (d ∷ ds) = ap suc (length_written ds)

pub number_some : (n : ℕ) → 0 < length (number_text n)
number_some zero = let e = ap length text_of_zero in omega (arith, e)
number_some (suc n) =
    let e = ap length (text_of_some (suc n) (omega arith)) ∙ length_written (digits_of 10 (suc n)) in
    omega (arith, e, some_digits (digits_of 10 (suc n)) (first_digits_of 10 (suc n) (omega arith) (omega arith)))

-- and none of them is a leading zero;
first_written : (ds : List ℕ) → 0 < get_or ds 0 0 → ¬ (get_or (map (λ d. 48 + d) ds) 0 0 ≡ 48)
first_written [] h e = absurd (omega arith)
first_written (d ∷ ds) h e = absurd (omega (arith, e, h))

pub number_leads : (n : ℕ) → get_or (number_text n) 0 0 ≡ 48 → length (number_text n) ≡ 1
number_leads zero h = ap length text_of_zero
number_leads (suc n) h = absurd (first_written (digits_of 10 (suc n)) (first_digits_of 10 (suc n) (omega arith) (omega arith)) (ap (λ bs. get_or bs 0 0) (sym (text_of_some (suc n) (omega arith))) ∙ h))

-- their value is the number,
pub number_value : (n : ℕ) → digits_value 10 (number_text n) ≡ n
number_value zero = ap (digits_value 10) text_of_zero
number_value (suc n) =
    let ds = digits_of 10 (suc n) in
    ap (digits_value 10) (text_of_some (suc n) (omega arith))
    ∙ digits_value_is 10 (map (λ d. 48 + d) ds)
    ∙ ap (number_from_digits 10) (values_of_digits ds (all_below_base_digits_of 10 (suc n) (omega arith)))
    ∙ number_digits_of 10 (suc n) (omega arith)

-- and other digits without a leading zero are the text of their value.
pub number_decimal : NumbersAreDecimal
number_decimal zero low = text_of_zero ∙ sym (decimal_digit 0 (omega arith))
number_decimal (suc n) low = text_of_some (suc n) (omega arith) ∙ sym (decimal-digits_of (suc n) (omega arith) low)

tells : IsDigitsTest AreDigits
tells = record {
  empty = tt;
  parts = λ c cs h. (from_digit c h.0, h.1);
  more = λ c cs r h. (to_digit c r, h);
}

pub few_digits : (ds : List ℕ) → AreDigits ds → length ds < 20 → digits_value 10 ds < 2 ^ 64
few_digits ds are few = let short = digits_value_short (numerals_by_value AreDigits tells) ds 19 are (omega (arith, few)) in omega (arith, short)

pub number_of_digits : (ds : List ℕ) → AreDigits ds → 0 < length ds → (get_or ds 0 0 ≡ 48 → length ds ≡ 1) → digits_value 10 ds < 2 ^ 64 → number_text (digits_value 10 ds) ≡ ds
number_of_digits ds are some leads low = number_decimal (digits_value 10 ds) low ∙ decimal-digits_value (numerals_by_value AreDigits tells) ds are some leads low

-- two runs of digits, where no digit follows
pub one_run : (xs ys r s : List ℕ) → AreDigits xs → AreDigits ys → BeginsWithNoDigit r → BeginsWithNoDigit s → xs ++ r ≡ ys ++ s → (xs ≡ ys) × (r ≡ s)
one_run [] [] r s a b c d e = (refl, e)
one_run [] (y ∷ ys) [] s a b c d e = cc
one_run [] (y ∷ ys) (z ∷ zs) s a b c d e =
    let same : z ≡ y = cc in
    absurd (let clash : true ≡ false = sym b.0 ∙ ap is_ascii_digit (sym same) ∙ c in cc)
one_run (x ∷ xs) [] r [] a b c d e = cc
one_run (x ∷ xs) [] r (z ∷ zs) a b c d e =
    let same : x ≡ z = cc in
    absurd (let clash : true ≡ false = sym a.0 ∙ ap is_ascii_digit same ∙ d in cc)
one_run (x ∷ xs) (y ∷ ys) r s a b c d e =
    let same : x ≡ y = cc in
    let rest : xs ++ r ≡ ys ++ s = cc in
    let more = one_run xs ys r s a.1 b.1 c d rest in
    ((λ i. same i ∷ more.0 i), more.1)

-- two numbers, where no digit follows
pub one_number : (m n : ℕ) (r s : List ℕ) → BeginsWithNoDigit r → BeginsWithNoDigit s → number_text m ++ r ≡ number_text n ++ s → (m ≡ n) × (r ≡ s)
one_number m n r s c d e =
    let same = one_run (number_text m) (number_text n) r s (number_digits m) (number_digits n) c d e in
    (sym (number_value m) ∙ ap (digits_value 10) same.0 ∙ number_value n, same.1)

-- what the digits at the front are, and what stands behind them
pub record IsRun (bytes digits behind : List ℕ) : Type 0 where
  pub are : AreDigits digits
  pub ends : BeginsWithNoDigit behind
  pub is : bytes ≡ digits ++ behind

front_digits : (bs : List ℕ) → AreDigits (take (prefix_len is_ascii_digit bs) bs) × BeginsWithNoDigit (drop (prefix_len is_ascii_digit bs) bs)
front_digits [] = (tt, tt)
front_digits (b ∷ bs) = by (is_ascii_digit b) refl (front_digits bs)
  where
    by : (t : Bool) → is_ascii_digit b ≡ t → AreDigits (take (prefix_len is_ascii_digit bs) bs) × BeginsWithNoDigit (drop (prefix_len is_ascii_digit bs) bs)
        → AreDigits (take (prefix_len is_ascii_digit (b ∷ bs)) (b ∷ bs)) × BeginsWithNoDigit (drop (prefix_len is_ascii_digit (b ∷ bs)) (b ∷ bs))
    by true e h = rw e (let k : 1 + prefix_len is_ascii_digit bs ≡ suc (prefix_len is_ascii_digit bs) = omega arith in rw k ((e, h.0), h.1))
    by false e h = rw e (tt, e)

pub run_is : (bytes digits behind : List ℕ) (k : ℕ) → k ≡ prefix_len is_ascii_digit bytes → digits ≡ take k bytes → behind ≡ drop k bytes → IsRun bytes digits behind
run_is bytes digits behind k is front back =
    let h = front_digits bytes in record {
      are = subst AreDigits (sym (front ∙ ap (λ n. take n bytes) is)) h.0;
      ends = subst BeginsWithNoDigit (sym (back ∙ ap (λ n. drop n bytes) is)) h.1;
      is = sym (take-append-drop k bytes) ∙ ap (λ l. l ++ drop k bytes) (sym front) ∙ ap (λ l. digits ++ l) (sym back);
    }

-- a number at the front is those digits
module _ (bytes digits behind : List ℕ) (run : IsRun bytes digits behind) where
  the_digits : (n : ℕ) (rest : List ℕ) → BeginsWithNoDigit rest → bytes ≡ number_text n ++ rest → digits ≡ number_text n
  the_digits n rest ends e = (one_run digits (number_text n) behind rest run.are (number_digits n) run.ends ends (sym run.is ∙ e)).0

  pub none_plain : ¬ (IsPlain digits) → BeginsWithNoNumber bytes
  none_plain never n rest low ends e =
      let same = the_digits n rest ends e in
      never (subst IsPlain (sym same) (number_some n, number_leads n))

  pub too_large : ¬ (digits_value 10 digits < 2 ^ 64) → BeginsWithNoNumber bytes
  too_large never n rest low ends e =
      let value = ap (digits_value 10) (the_digits n rest ends e) ∙ number_value n in
      never (omega (arith, value))

  pub found_number : IsPlain digits → (v : ℕ) → digits_value 10 digits < 2 ^ 64 → v ≡ digits_value 10 digits → (bytes ≡ number_text v ++ behind) × BeginsWithNoDigit behind
  found_number plain v low is = (run.is ∙ ap (λ l. l ++ behind) (sym (ap number_text is ∙ number_of_digits digits run.are plain.0 plain.1 low)), run.ends)
