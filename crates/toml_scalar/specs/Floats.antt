-- The forms of a float and the text that stands for it.
use Rattle.std.specs.Prelude.{◌≡◌, ℕ, ◌||◌, ◌&&◌, List, [], ◌∷◌, ◌++◌, map, ◌⊎◌, ◌==◌, if◌then◌else◌, codes}
use Rattle.toml_text.specs.Bytes.{is_digit}
use Rattle.toml_scalar.specs.Integers.{AreDigits, Signed, IsDecimal, without_underscores}

-- TOML v1.0.0, Float; `exp`: `e` or `E`, a sign or none, and digits, also leading zeros
abbrev pub IsExponent : List ℕ → Type 0
IsExponent [] = ⊥
IsExponent (e ∷ bs) = ((e ≡ 0x65) ⊎ (e ≡ 0x45)) × Signed (AreDigits is_digit) bs

-- TOML v1.0.0, Float; `frac`: a point and digits
abbrev pub IsFraction : List ℕ → Type 0
IsFraction [] = ⊥
IsFraction (b ∷ bs) = (b ≡ 0x2E) × AreDigits is_digit bs

-- TOML v1.0.0, Float; `exp / frac [ exp ]`
abbrev pub IsFloatTail : List ℕ → Type 0
IsFloatTail bs = IsExponent bs ⊎ (IsFraction bs ⊎ ((f : List ℕ) × (e : List ℕ) × (bs ≡ f ++ e) × IsFraction f × IsExponent e))

-- TOML v1.0.0, Float; `inf / nan`
abbrev pub IsNamedFloat : List ℕ → Type 0
IsNamedFloat bs = (bs ≡ codes "inf") ⊎ (bs ≡ codes "nan")

-- TOML v1.0.0, Float; `float-int-part ( exp / frac [ exp ] ) / special-float`
abbrev pub IsFloat : List ℕ → Type 0
IsFloat bs = Signed IsNamedFloat bs ⊎ ((i : List ℕ) × (t : List ℕ) × (bs ≡ i ++ t) × IsDecimal i × IsFloatTail t)

-- a spelling without a leading `+`; `-nan` loses its sign too, for it is no other value than `nan`
abbrev pub without_sign : List ℕ → List ℕ
without_sign [] = []
without_sign (s ∷ []) = s ∷ []
without_sign (s ∷ b ∷ bs) = if s == 0x2B || (s == 0x2D && b == 0x6E) then b ∷ bs else s ∷ b ∷ bs

-- `E` as `e`, and any other byte as it is
abbrev pub text_byte : ℕ → ℕ
text_byte b = if b == 0x45 then 0x65 else b

-- what a float stands for: its spelling so, without underscores, and with `E` written `e`
abbrev pub float_text : List ℕ → List ℕ
float_text bs = map text_byte (without_underscores (without_sign bs))
