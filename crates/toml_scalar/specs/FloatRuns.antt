-- Whether a run of bytes is a float: the plain functions beside the forms.
use Rattle.std.specs.Prelude.{ℕ, Bool, true, false, ◌||◌, ◌&&◌, not, List, [], ◌∷◌, take, drop, ◌==◌, if◌then◌else◌, codes}
use Rattle.std.specs.Str.{bytes_eq}
use Rattle.toml_text.specs.Runs.{run_len}
use Rattle.toml_scalar.specs.IntegerRuns.{signed, are_digits, is_decimal}

-- `inf / nan`
abbrev pub is_named_float : List ℕ → Bool
is_named_float bs = bytes_eq bs (codes "inf") || bytes_eq bs (codes "nan")

-- a byte that begins neither a fraction nor an exponent
abbrev pub is_whole_byte : ℕ → Bool
is_whole_byte b = not (b == 0x2E || b == 0x65 || b == 0x45)

-- how many bytes stand before the first fraction or exponent
abbrev pub whole_len : List ℕ → ℕ
whole_len bs = run_len is_whole_byte bs

-- `exp`
abbrev pub is_exponent : List ℕ → Bool
is_exponent [] = false
is_exponent (e ∷ bs) = (e == 0x65 || e == 0x45) && signed (are_digits 10) bs

-- `[ exp ]`
abbrev pub is_exponent_or_none : List ℕ → Bool
is_exponent_or_none [] = true
is_exponent_or_none (e ∷ bs) = is_exponent (e ∷ bs)

-- what stands behind the point: digits, and an exponent or none
abbrev pub is_behind_point : List ℕ → Bool
is_behind_point bs = are_digits 10 (take (whole_len bs) bs) && is_exponent_or_none (drop (whole_len bs) bs)

-- `exp / frac [ exp ]`
abbrev pub is_float_tail : List ℕ → Bool
is_float_tail [] = false
is_float_tail (b ∷ bs) = if b == 0x2E then is_behind_point bs else is_exponent (b ∷ bs)

-- `float-int-part ( exp / frac [ exp ] )`
abbrev pub is_number_float : List ℕ → Bool
is_number_float bs = is_decimal (take (whole_len bs) bs) && is_float_tail (drop (whole_len bs) bs)

-- `float`
abbrev pub is_float : List ℕ → Bool
is_float bs = signed is_named_float bs || is_number_float bs
