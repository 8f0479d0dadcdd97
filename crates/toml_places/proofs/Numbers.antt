-- What is answered of a key part and of a number is what the plain reader reads.
use Rattle.std.proofs.Common.{◌≡◌, ℕ, ◌+◌, ◌-◌, ◌<◌, ◌^◌, Bool, true, false, cond, eqb, ◌&&◌, List, [], ◌∷◌, length, take, drop, Some, None, Result, Ok, Err, sym, refl, ap, ◌∙◌, subst, arith}
use Rattle.std.specs.Prelude.{nat_lt, slice_range}
use Rattle.std.specs.Result.{OkIff}
use Rattle.std.specs.Str.Parse.{ParsesUnsigned, digits_value}
use Rattle.std.proofs.lemmas.Bool.{cond-true, cond-false}
use Rattle.std.proofs.lemmas.Bool.Decides.{nat_tests}
use Rattle.std.proofs.lemmas.List.{drop-drop, length-take-le}
use Rattle.std.proofs.lemmas.Str.Parse.{parse_digits}
use Rattle.toml_text.specs.Bytes.{is_digit}
use Rattle.toml_text.specs.Forms.{Each}
use Rattle.toml_text.specs.Runs.{run_len}
use Rattle.toml_text.proofs.Proved.{run_piece}
use Rattle.toml_scalar.specs.Scanning.{key_part_len}
use Rattle.toml_scalar.specs.Values.{name_of}
use Rattle.toml_places.specs.Reading.{Cursor, found, ahead, part_at, numeral_len, number_at}
use Rattle.toml_places.proofs.SpelledBack.{numerals}
use Rattle.toml_places.proofs.Within.{numeral_within}

-- key parts
pub no_part : (c : Cursor) → key_part_len c.rest ≡ None → part_at c ≡ Err c.at
unfolding part_at
no_part c none = rw none refl

pub no_name : (c : Cursor) (n : ℕ) → key_part_len c.rest ≡ Some n → name_of (take n c.rest) ≡ None → part_at c ≡ Err c.at
unfolding part_at
no_name c n len none = rw (len, none) refl

pub part_read : (c : Cursor) (n : ℕ) (name : List ℕ) → key_part_len c.rest ≡ Some n → name_of (take n c.rest) ≡ Some name → part_at c ≡ Ok (name, ahead n c)
unfolding part_at
part_read c n name len is = rw (len, is) refl

-- numbers
zero_digit : (b : ℕ) → eqb b 0x30 ≡ true → is_digit b ≡ true
zero_digit b h = grind (arith, nat_tests)

pub numeral_digits : (bs : List ℕ) → Each is_digit (take (numeral_len bs) bs)
numeral_digits [] = tt
numeral_digits (b ∷ bs) = elim (eqb b 0x30) as (λ t. eqb b 0x30 ≡ t → Each is_digit (take (cond t 1 (run_len is_digit (b ∷ bs))) (b ∷ bs))) [
  | true ↦ λ is. (zero_digit b is, tt)
  | false ↦ λ other. (run_piece is_digit (b ∷ bs)).1
] refl

in_limit : (n value : ℕ) → 0 < n → value < 2 ^ 64 → (nat_lt 0 n && nat_lt value (2 ^ 64)) ≡ true
in_limit n value some low = grind (arith, nat_tests)

out_of_limit : (n value : ℕ) → ¬ ((0 < n) × (value < 2 ^ 64)) → (nat_lt 0 n && nat_lt value (2 ^ 64)) ≡ false
out_of_limit n value no_number = by (nat_lt 0 n && nat_lt value (2 ^ 64)) refl
  where
    by : (t : Bool) → (nat_lt 0 n && nat_lt value (2 ^ 64)) ≡ t → t ≡ false
    by false e = refl
    by true e = absurd (no_number (grind (arith, nat_tests), grind (arith, nat_tests)))

module _ (c : Cursor) (digits : List ℕ) (is : digits ≡ take (numeral_len c.rest) c.rest) where
  some : length digits ≡ numeral_len c.rest
  some = ap length is ∙ length-take-le (numeral_len c.rest) c.rest (numeral_within c.rest)

  each : Each is_digit digits
  each = subst (Each is_digit) (sym is) (numeral_digits c.rest)

  pub number_read : {E : Type 0} (r : Result ℕ E) (n : ℕ) → ParsesUnsigned 64 10 digits r → r ≡ Ok n → number_at c ≡ Ok (n, ahead (numeral_len c.rest) c)
  unfolding number_at
  number_read r n parses read =
      let told = subst (λ o. OkIff o ((0 < length digits) × (digits_value 10 digits < 2 ^ 64)) (digits_value 10 digits)) read (parse_digits numerals 64 digits r parses each) in
      let value : digits_value 10 digits ≡ digits_value 10 (take (numeral_len c.rest) c.rest) = ap (digits_value 10) is in
      cond-true _ _ _ (in_limit (numeral_len c.rest) (digits_value 10 (take (numeral_len c.rest) c.rest)) (omega (arith, some, told.0.0)) (omega (arith, value, told.0.1)))
      ∙ ap (λ v. Ok (v, ahead (numeral_len c.rest) c)) (sym (told.1 ∙ value))

  pub no_number : {E : Type 0} (r : Result ℕ E) (e : E) → ParsesUnsigned 64 10 digits r → r ≡ Err e → number_at c ≡ Err c.at
  unfolding number_at
  no_number r e parses read =
      let told = subst (λ o. OkIff o ((0 < length digits) × (digits_value 10 digits < 2 ^ 64)) (digits_value 10 digits)) read (parse_digits numerals 64 digits r parses each) in
      let value : digits_value 10 digits ≡ digits_value 10 (take (numeral_len c.rest) c.rest) = ap (digits_value 10) is in
      cond-false _ _ _ (out_of_limit (numeral_len c.rest) (digits_value 10 (take (numeral_len c.rest) c.rest)) (λ both. told (omega (arith, some, both.0), omega (arith, value, both.1))))

-- so many bytes further on
moved : (text : List ℕ) (at n last : ℕ) → last ≡ at + n → ahead n (record { at = at; rest = drop at text }) ≡ record { at = last; rest = drop last text }
moved text at n last is =
    let behind : drop n (drop at text) ≡ drop last text = drop-drop n at text ∙ ap (λ k. drop k text) (sym is) in
    λ i. record { at = sym is i; rest = behind i }

module _ (text : List ℕ) (at len start last : ℕ) (begins_at : start ≡ at) (is : last ≡ at + len) where
  bytes : slice_range text start last ≡ take len (drop at text)
  bytes = let count : last - at ≡ len = omega arith in ap (λ s. slice_range text s last) begins_at ∙ ap (λ n. take n (drop at text)) count

  pub part_done : (name : List ℕ) → key_part_len (drop at text) ≡ Some len → name_of (slice_range text start last) ≡ Some name → part_at (record { at = at; rest = drop at text }) ≡ Ok (name, record { at = last; rest = drop last text })
  part_done name found named =
      part_read (record { at = at; rest = drop at text }) len name found (ap name_of (sym bytes) ∙ named) ∙ ap (λ d. Ok (name, d)) (moved text at len last is)

  pub part_missed : key_part_len (drop at text) ≡ Some len → name_of (slice_range text start last) ≡ None → part_at (record { at = at; rest = drop at text }) ≡ Err at
  part_missed found none = no_name (record { at = at; rest = drop at text }) len found (ap name_of (sym bytes) ∙ none)

module _ (text : List ℕ) (at n : ℕ) (is : n ≡ numeral_len (drop at text)) (digits : List ℕ) (are : digits ≡ slice_range text at (at + n)) where
  front_is : digits ≡ take (numeral_len (drop at text)) (drop at text)
  front_is = let count : at + n - at ≡ n = omega arith in are ∙ ap (λ k. take k (drop at text)) (count ∙ is)

  pub number_done : {E : Type 0} (r : Result ℕ E) (v : ℕ) → ParsesUnsigned 64 10 digits r → r ≡ Ok v → number_at (record { at = at; rest = drop at text }) ≡ Ok (v, record { at = at + n; rest = drop (at + n) text })
  number_done r v parses read =
      number_read (record { at = at; rest = drop at text }) digits front_is r v parses read
      ∙ ap (λ d. Ok (v, d)) (moved text at (numeral_len (drop at text)) (at + n) (ap (λ k. at + k) is))

  pub number_missed : {E : Type 0} (r : Result ℕ E) (e : E) → ParsesUnsigned 64 10 digits r → r ≡ Err e → number_at (record { at = at; rest = drop at text }) ≡ Err at
  number_missed r e parses read = no_number (record { at = at; rest = drop at text }) digits front_is r e parses read
