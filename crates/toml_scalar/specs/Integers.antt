-- The forms of an integer, the number that it spells and the range of its numbers.
use Rattle.std.specs.Prelude.{◌≡◌, ℕ, ◌+◌, ◌-◌, ◌*◌, ◌^◌, Bool, true, ◌&&◌, not, List, [], ◌∷◌, length, filter, ◌⊎◌, ◌==◌, if◌then◌else◌, ℤ, pos, neg_ℤ, ◌≤ℤ◌}
use Rattle.std.specs.Char.{digit_value}
use Rattle.toml_text.specs.Bytes.{is_digit, is_leading_digit, is_hex, is_octal, is_binary}

-- TOML v1.0.0, Integer; `zero-prefixable-int`, for the digits of any base: an underscore only between two of them
abbrev pub AreDigits : (ℕ → Bool) → List ℕ → Type 0
AreDigits p [] = ⊥
AreDigits p (d ∷ []) = p d ≡ true
AreDigits p (d ∷ e ∷ bs) = (p d ≡ true) × (AreDigits p (e ∷ bs) ⊎ ((e ≡ 0x5F) × AreDigits p bs))

-- `minus / plus`
abbrev pub IsSign : ℕ → Type 0
IsSign b = (b ≡ 0x2B) ⊎ (b ≡ 0x2D)

-- `[ minus / plus ]` and a form
abbrev pub Signed : (List ℕ → Type 0) → List ℕ → Type 0
Signed F [] = F []
Signed F (b ∷ bs) = (IsSign b × F bs) ⊎ F (b ∷ bs)

-- TOML v1.0.0, Integer; `unsigned-dec-int`: a digit alone, or digits that do not begin with `0`
abbrev pub IsUnsigned : List ℕ → Type 0
IsUnsigned [] = ⊥
IsUnsigned (d ∷ []) = is_digit d ≡ true
IsUnsigned (d ∷ e ∷ bs) = (is_leading_digit d ≡ true) × AreDigits is_digit (d ∷ e ∷ bs)

-- TOML v1.0.0, Integer; `dec-int`: `unsigned-dec-int` behind a sign or none
abbrev pub IsDecimal : List ℕ → Type 0
IsDecimal bs = Signed IsUnsigned bs

-- TOML v1.0.0, Integer; the digits of `hex-int`, `oct-int` or `bin-int` behind its letter
abbrev pub IsBasedBy : ℕ → List ℕ → Type 0
IsBasedBy letter bs = ((letter ≡ 0x78) × AreDigits is_hex bs) ⊎ (((letter ≡ 0x6F) × AreDigits is_octal bs) ⊎ ((letter ≡ 0x62) × AreDigits is_binary bs))

-- TOML v1.0.0, Integer; `hex-int / oct-int / bin-int`: `0x`, `0o` or `0b` with no sign, and digits of the base
abbrev pub IsBased : List ℕ → Type 0
IsBased [] = ⊥
IsBased (z ∷ []) = ⊥
IsBased (z ∷ letter ∷ bs) = (z ≡ 0x30) × IsBasedBy letter bs

-- TOML v1.0.0, Integer: underscores are for readers only
abbrev pub without_underscores : List ℕ → List ℕ
without_underscores = filter (λ b. not (b == 0x5F))

-- TOML v1.0.0, Integer: the sum of the digits, each times its power of the base
abbrev pub digits_value : ℕ → List ℕ → ℕ
digits_value base [] = 0
digits_value base (d ∷ ds) = digit_value d * base ^ length ds + digits_value base ds

-- TOML v1.0.0, Integer: the number that digits of a base spell, with underscores among them
abbrev pub number : ℕ → List ℕ → ℕ
number base bs = digits_value base (without_underscores bs)

-- TOML v1.0.0, Integer: the number of a spelling without its sign, in the base that `0x`, `0o` or `0b` names, else in base 10
abbrev pub unsigned_value : List ℕ → ℕ
unsigned_value [] = 0
unsigned_value (z ∷ []) = number 10 (z ∷ [])
unsigned_value (z ∷ letter ∷ bs) = if z == 0x30 && letter == 0x78 then number 16 bs else (if z == 0x30 && letter == 0x6F then number 8 bs else (if z == 0x30 && letter == 0x62 then number 2 bs else number 10 (z ∷ letter ∷ bs)))

-- TOML v1.0.0, Integer: the number that an integer spells; `-0` and `+0` are 0
abbrev pub integer_value : List ℕ → ℤ
integer_value [] = pos 0
integer_value (b ∷ bs) = if b == 0x2D then neg_ℤ (pos (unsigned_value bs)) else pos (if b == 0x2B then unsigned_value bs else unsigned_value (b ∷ bs))

-- TOML v1.0.0, Integer: the number lies in -2^63 to 2^63 - 1
abbrev pub FitsInteger : List ℕ → Type 0
FitsInteger bs = (neg_ℤ (pos (2 ^ 63)) ≤ℤ integer_value bs) × (integer_value bs ≤ℤ pos (2 ^ 63 - 1))

-- TOML v1.0.0, Integer: the form, and a number in range
abbrev pub IsInteger : List ℕ → Type 0
IsInteger bs = (IsDecimal bs ⊎ IsBased bs) × FitsInteger bs
