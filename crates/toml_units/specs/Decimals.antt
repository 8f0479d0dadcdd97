-- Numbers in decimal.
use Rattle.std.specs.Prelude.{◌≡◌, ◌==◌, ◌<◌, ◌+◌, ◌^◌, ℕ, true, false, if◌then◌else◌, List, [], ◌∷◌, ◌++◌, length, map, slice_index, codes}
use Rattle.std.specs.Char.{is_ascii_digit}
use Rattle.std.specs.Fmt.{decimal}
use Rattle.std.specs.Int.Digits.{digits_of}
use Rattle.toml_tree.specs.Spells.{EachIs}

-- a number in decimal, without leading zeros
unfoldable pub number_text : ℕ → List ℕ
number_text n = if n == 0 then codes "0" else map (λ d. 48 + d) (digits_of 10 n)

-- Words of the code's own contracts: there is a digit, and no leading zero;
abbrev pub IsPlain : List ℕ → Type 0
IsPlain digits = (0 < length digits) × (slice_index digits 0 ≡ 48 → length digits ≡ 1)

-- all bytes are digits;
abbrev pub AreDigits : List ℕ → Type 0
AreDigits bs = EachIs (λ b. is_ascii_digit b ≡ true) bs

-- no digit is the first of the bytes;
abbrev pub BeginsWithNoDigit : List ℕ → Type 0
BeginsWithNoDigit [] = Unit {0}
BeginsWithNoDigit (b ∷ bs) = is_ascii_digit b ≡ false

-- no number that the code can hold is at the front, up to its last digit.
abbrev pub BeginsWithNoNumber : List ℕ → Type 0
BeginsWithNoNumber bytes = (n : ℕ) (rest : List ℕ) → n < 2 ^ 64 → BeginsWithNoDigit rest → ¬ (bytes ≡ number_text n ++ rest)

-- the number is at the front, up to its last digit
abbrev pub BeginsWithNumber : List ℕ → ℕ → List ℕ → Type 0
BeginsWithNumber bytes n rest = (bytes ≡ number_text n ++ rest) × BeginsWithNoDigit rest

-- Law: the text of a number that the code can hold is what `{}` writes of it.
abbrev pub NumbersAreDecimal : Type 0
NumbersAreDecimal = (n : ℕ) → n < 2 ^ 64 → number_text n ≡ decimal n
