-- Laws: the plain functions of `MomentRuns` find the dates and times of `Moments`, and no others; what each begins with, where a
-- space stands in one, and what its datum has.
use Rattle.std.specs.Prelude.{◌≡◌, ℕ, true, List, [], ◌∷◌, ◌++◌, length, ◌⊎◌, Some}
use Rattle.toml_text.specs.Bytes.{is_digit}
use Rattle.toml_text.specs.Forms.{Each}
use Rattle.toml_text.specs.Runs.{begins}
use Rattle.toml_scalar.specs.Runs.{is_value_byte}
use Rattle.toml_scalar.specs.Moments.{IsDate, IsTime, IsOffset, IsDelimiter, IsDateTime, IsMoment, moment_text}
use Rattle.toml_scalar.specs.MomentRuns.{is_date_shape, moment_kind}
use Rattle.toml_scalar.specs.declared.kind.MomentKind.{MomentKind}

-- an offset as the datum has it: `Z` for a letter, and otherwise as spelled
abbrev pub zone_text : List ℕ → List ℕ
zone_text (z ∷ []) = 0x5A ∷ []
zone_text bs = bs

-- four digits and `-`
abbrev pub BeginsYear : List ℕ → Type 0
BeginsYear bs =
    (b1 : ℕ) × (b2 : ℕ) × (b3 : ℕ) × (b4 : ℕ) × (r : List ℕ) × (bs ≡ b1 ∷ b2 ∷ b3 ∷ b4 ∷ 0x2D ∷ r)
    × (is_digit b1 ≡ true) × (is_digit b2 ≡ true) × (is_digit b3 ≡ true) × (is_digit b4 ≡ true)

-- two digits and `:`
abbrev pub BeginsHour : List ℕ → Type 0
BeginsHour bs = (b1 : ℕ) × (b2 : ℕ) × (r : List ℕ) × (bs ≡ b1 ∷ b2 ∷ 0x3A ∷ r) × (is_digit b1 ≡ true) × (is_digit b2 ≡ true)

-- two runs with one space between, the first of a date's shape and the second with a digit in front
abbrev pub IsSpaced : List ℕ → Type 0
IsSpaced bs =
    (date : List ℕ) × (rest : List ℕ) × (bs ≡ date ++ 0x20 ∷ rest) × (is_date_shape date ≡ true) × (length date ≡ 10)
    × Each is_value_byte date × Each is_value_byte rest × (begins is_digit rest ≡ true)

-- what is found is a date or a time of that kind
abbrev pub MomentIsForm : Type 0
MomentIsForm = (bs : List ℕ) (k : MomentKind) → moment_kind bs ≡ Some k → IsMoment k bs

-- a date or a time is found, and so has one kind
abbrev pub FormIsMoment : Type 0
FormIsMoment = (bs : List ℕ) (k : MomentKind) → IsMoment k bs → moment_kind bs ≡ Some k

abbrev pub OneMomentKind : Type 0
OneMomentKind = (bs : List ℕ) (j k : MomentKind) → IsMoment j bs → IsMoment k bs → j ≡ k

-- the first bytes tell that no number stands there
abbrev pub MomentBegins : Type 0
MomentBegins = (bs : List ℕ) (k : MomentKind) → IsMoment k bs → BeginsYear bs ⊎ BeginsHour bs

-- a date or a time is a run of the bytes of values, or two such runs with a space between
abbrev pub MomentIsRun : Type 0
MomentIsRun = (bs : List ℕ) (k : MomentKind) → IsMoment k bs → Each is_value_byte bs ⊎ IsSpaced bs

-- it is never both
abbrev pub SpaceIsApart : Type 0
SpaceIsApart = (date rest : List ℕ) → ¬ Each is_value_byte (date ++ 0x20 ∷ rest)

-- what the datum has: date and time as spelled, with all digits, and `T` between
abbrev pub DateText : Type 0
DateText = (bs : List ℕ) → IsDate bs → moment_text bs ≡ bs

abbrev pub TimeText : Type 0
TimeText = (bs : List ℕ) → IsTime bs → moment_text bs ≡ bs

abbrev pub LocalText : Type 0
LocalText = (date : List ℕ) (t : ℕ) (time : List ℕ) → IsDate date → IsDelimiter t → IsTime time → moment_text (date ++ t ∷ time) ≡ date ++ 0x54 ∷ time

abbrev pub OffsetText : Type 0
OffsetText =
    (local offset : List ℕ) → IsDateTime local → IsOffset offset → moment_text (local ++ offset) ≡ moment_text local ++ zone_text offset
