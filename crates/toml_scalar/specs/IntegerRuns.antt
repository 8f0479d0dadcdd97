-- Whether a run of bytes is an integer: the plain functions beside the forms.
use Rattle.std.specs.Prelude.{ℕ, ◌^◌, Bool, true, false, ◌||◌, ◌&&◌, List, [], ◌∷◌, nat_le, nat_lt, ◌==◌, if◌then◌else◌}
use Rattle.std.specs.Char.{digit_value}
use Rattle.toml_text.specs.Bytes.{is_digit, is_leading_digit}
use Rattle.toml_scalar.specs.Integers.{unsigned_value}

abbrev pub is_sign : ℕ → Bool
is_sign b = b == 0x2B || b == 0x2D

-- `[ minus / plus ]` and a form
abbrev pub signed : (List ℕ → Bool) → List ℕ → Bool
signed is_form [] = is_form []
signed is_form (b ∷ bs) = if is_sign b then is_form bs else is_form (b ∷ bs)

-- a digit of the base, its letters in either case
abbrev pub is_digit_of : ℕ → ℕ → Bool
is_digit_of base b = nat_lt (digit_value b) base

-- whether the bytes go on as digits, each underscore between two of them; whether the byte in front was a digit is given
abbrev pub digits_after : (ℕ → Bool) → Bool → List ℕ → Bool
digits_after p was_digit [] = was_digit
digits_after p was_digit (b ∷ bs) = if p b then digits_after p true bs else (b == 0x5F && was_digit && digits_after p false bs)

-- `zero-prefixable-int`, for the digits of any base
abbrev pub are_digits : ℕ → List ℕ → Bool
are_digits base bs = digits_after (is_digit_of base) false bs

-- `unsigned-dec-int`
abbrev pub is_unsigned : List ℕ → Bool
is_unsigned [] = false
is_unsigned (d ∷ []) = is_digit d
is_unsigned (d ∷ e ∷ bs) = is_leading_digit d && are_digits 10 (d ∷ e ∷ bs)

-- `dec-int`
abbrev pub is_decimal : List ℕ → Bool
is_decimal bs = signed is_unsigned bs

-- the digits of `hex-int`, `oct-int` or `bin-int` behind its letter
abbrev pub is_based_by : ℕ → List ℕ → Bool
is_based_by letter bs = if letter == 0x78 then are_digits 16 bs else (if letter == 0x6F then are_digits 8 bs else (letter == 0x62 && are_digits 2 bs))

-- `hex-int / oct-int / bin-int`
abbrev pub is_based : List ℕ → Bool
is_based [] = false
is_based (z ∷ []) = false
is_based (z ∷ letter ∷ bs) = z == 0x30 && is_based_by letter bs

-- `integer`, of whatever size
abbrev pub is_integer_form : List ℕ → Bool
is_integer_form bs = is_decimal bs || is_based bs

-- whether the number lies in -2^63 to 2^63 - 1, by the number without its sign
abbrev pub fits_integer : List ℕ → Bool
fits_integer [] = true
fits_integer (b ∷ bs) = if b == 0x2D then nat_le (unsigned_value bs) (2 ^ 63) else nat_lt (if b == 0x2B then unsigned_value bs else unsigned_value (b ∷ bs)) (2 ^ 63)

-- the form, and a number in range
abbrev pub is_integer : List ℕ → Bool
is_integer bs = is_integer_form bs && fits_integer bs
