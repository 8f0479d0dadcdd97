-- The forms of dates and times, and the spelling that is a date's or a time's datum.
use Rattle.std.specs.Prelude.{◌≡◌, ℕ, ◌+◌, ◌-◌, ◌*◌, ◌≤◌, true, List, [], ◌∷◌, ◌++◌, map, ◌⊎◌, ◌||◌, ◌==◌, if◌then◌else◌}
use Rattle.toml_text.specs.Bytes.{is_digit}
use Rattle.toml_text.specs.Forms.{Each}
use Rattle.toml_scalar.specs.Calendar.{days_in}
use Rattle.toml_scalar.specs.declared.kind.MomentKind.{MomentKind}
use Rattle.toml_scalar.specs.declared.kind.MomentKind.TheVariants.{Offset, Local, Date, Time}

-- the number that two digits spell
abbrev pub two_digits : ℕ → ℕ → ℕ
two_digits a b = (a - 0x30) * 10 + (b - 0x30)

-- `2DIGIT`, of a number in a range
abbrev pub AreTwoDigits : ℕ → ℕ → ℕ → ℕ → Type 0
AreTwoDigits low high a b = (is_digit a ≡ true) × (is_digit b ≡ true) × (low ≤ two_digits a b) × (two_digits a b ≤ high)

-- TOML v1.0.0, Local Date; `full-date`: a year from 0000 on, and a day that its month has
abbrev pub IsDate : List ℕ → Type 0
IsDate (y1 ∷ y2 ∷ y3 ∷ y4 ∷ dash ∷ m1 ∷ m2 ∷ hyphen ∷ d1 ∷ d2 ∷ []) =
    Each is_digit (y1 ∷ y2 ∷ y3 ∷ y4 ∷ []) × (dash ≡ 0x2D) × AreTwoDigits 1 12 m1 m2 × (hyphen ≡ 0x2D)
    × AreTwoDigits 1 (days_in (two_digits y1 y2 * 100 + two_digits y3 y4) (two_digits m1 m2)) d1 d2
IsDate _ = ⊥

-- `time-secfrac`: a point and some digits
abbrev pub IsSecondFraction : List ℕ → Type 0
IsSecondFraction (point ∷ digit ∷ digits) = (point ≡ 0x2E) × Each is_digit (digit ∷ digits)
IsSecondFraction _ = ⊥

-- TOML v1.0.0, Local Time; `partial-time`: second 60 may stand at any minute
abbrev pub IsTime : List ℕ → Type 0
IsTime (h1 ∷ h2 ∷ colon ∷ m1 ∷ m2 ∷ colon2 ∷ s1 ∷ s2 ∷ bs) =
    AreTwoDigits 0 23 h1 h2 × (colon ≡ 0x3A) × AreTwoDigits 0 59 m1 m2 × (colon2 ≡ 0x3A) × AreTwoDigits 0 60 s1 s2
    × ((bs ≡ []) ⊎ IsSecondFraction bs)
IsTime _ = ⊥

-- `time-offset`: `Z` of either case, or a sign with hours and minutes
abbrev pub IsOffset : List ℕ → Type 0
IsOffset (z ∷ []) = (z ≡ 0x5A) ⊎ (z ≡ 0x7A)
IsOffset (sign ∷ h1 ∷ h2 ∷ colon ∷ m1 ∷ m2 ∷ []) =
    ((sign ≡ 0x2B) ⊎ (sign ≡ 0x2D)) × AreTwoDigits 0 23 h1 h2 × (colon ≡ 0x3A) × AreTwoDigits 0 59 m1 m2
IsOffset _ = ⊥

-- `time-delim`: `T` of either case, or one space
abbrev pub IsDelimiter : ℕ → Type 0
IsDelimiter t = (t ≡ 0x54) ⊎ ((t ≡ 0x74) ⊎ (t ≡ 0x20))

-- TOML v1.0.0, Local Date-Time; `local-date-time`
abbrev pub IsDateTime : List ℕ → Type 0
IsDateTime bs = (date : List ℕ) × (t : ℕ) × (time : List ℕ) × (bs ≡ date ++ t ∷ time) × IsDate date × IsDelimiter t × IsTime time

-- TOML v1.0.0, Offset Date-Time; `offset-date-time`
abbrev pub IsOffsetDateTime : List ℕ → Type 0
IsOffsetDateTime bs = (local : List ℕ) × (offset : List ℕ) × (bs ≡ local ++ offset) × IsDateTime local × IsOffset offset

-- `date-time`
abbrev pub IsMoment : MomentKind → List ℕ → Type 0
IsMoment Offset = IsOffsetDateTime
IsMoment Local = IsDateTime
IsMoment Date = IsDate
IsMoment Time = IsTime

-- of the bytes of a date or a time only a delimiter is `t` or a space, and only an offset is `z`
abbrev pub moment_byte : ℕ → ℕ
moment_byte b = if b == 0x74 || b == 0x20 then 0x54 else (if b == 0x7A then 0x5A else b)

-- the spelling with the delimiter written `T`, and `z` written `Z`
abbrev pub moment_text : List ℕ → List ℕ
moment_text = map moment_byte
