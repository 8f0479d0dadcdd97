-- Whether a run of bytes is a date or a time, and of which kind: the plain functions beside the forms.
use Rattle.std.specs.Prelude.{ℕ, ◌+◌, ◌*◌, Bool, true, false, ◌||◌, ◌&&◌, List, [], ◌∷◌, take, drop, nat_le, ◌==◌, if◌then◌else◌, Option, None, Some}
use Rattle.toml_text.specs.Bytes.{is_digit}
use Rattle.toml_text.specs.Runs.{run_len, begins}
use Rattle.toml_scalar.specs.Calendar.{days_in}
use Rattle.toml_scalar.specs.Moments.{two_digits}
use Rattle.toml_scalar.specs.declared.kind.MomentKind.{MomentKind}
use Rattle.toml_scalar.specs.declared.kind.MomentKind.TheVariants.{Offset, Local, Date, Time}

-- `2DIGIT`
abbrev pub are_digits : ℕ → ℕ → Bool
are_digits a b = is_digit a && is_digit b

-- `2DIGIT`, of a number up to the highest
abbrev pub are_digits_to : ℕ → ℕ → ℕ → Bool
are_digits_to high a b = are_digits a b && nat_le (two_digits a b) high

-- ten bytes `DDDD-DD-DD` in digits, of whatever numbers
abbrev pub is_date_shape : List ℕ → Bool
is_date_shape (y1 ∷ y2 ∷ y3 ∷ y4 ∷ dash ∷ m1 ∷ m2 ∷ hyphen ∷ d1 ∷ d2 ∷ []) =
    are_digits y1 y2 && are_digits y3 y4 && dash == 0x2D && are_digits m1 m2 && hyphen == 0x2D && are_digits d1 d2
is_date_shape _ = false

-- the month exists, and has the day
abbrev pub is_day : ℕ → ℕ → ℕ → Bool
is_day y m d = nat_le 1 m && nat_le m 12 && nat_le 1 d && nat_le d (days_in y m)

-- `full-date`
abbrev pub is_date : List ℕ → Bool
is_date (y1 ∷ y2 ∷ y3 ∷ y4 ∷ dash ∷ m1 ∷ m2 ∷ hyphen ∷ d1 ∷ d2 ∷ []) =
    is_date_shape (y1 ∷ y2 ∷ y3 ∷ y4 ∷ dash ∷ m1 ∷ m2 ∷ hyphen ∷ d1 ∷ d2 ∷ [])
    && is_day (two_digits y1 y2 * 100 + two_digits y3 y4) (two_digits m1 m2) (two_digits d1 d2)
is_date _ = false

-- hours and minutes, as a time and an offset have them
abbrev pub is_hour_minute : ℕ → ℕ → ℕ → ℕ → ℕ → Bool
is_hour_minute h1 h2 colon m1 m2 = are_digits_to 23 h1 h2 && colon == 0x3A && are_digits_to 59 m1 m2

-- what follows the `time-secfrac` at the front, or the bytes where there is none
abbrev pub after_fraction : List ℕ → List ℕ
after_fraction [] = []
after_fraction (b ∷ bs) = if b == 0x2E && begins is_digit bs then drop (run_len is_digit bs) bs else b ∷ bs

-- what follows the longest `partial-time` at the front, where there is one
abbrev pub after_time : List ℕ → Option (List ℕ)
after_time (h1 ∷ h2 ∷ colon ∷ m1 ∷ m2 ∷ colon2 ∷ s1 ∷ s2 ∷ bs) =
    if is_hour_minute h1 h2 colon m1 m2 && colon2 == 0x3A && are_digits_to 60 s1 s2 then Some (after_fraction bs) else None
after_time _ = None

-- whether a time was there, and nothing follows it
abbrev pub is_whole : Option (List ℕ) → Bool
is_whole None = false
is_whole (Some []) = true
is_whole (Some (b ∷ bs)) = false

-- `local-time`
abbrev pub is_time : List ℕ → Bool
is_time bs = is_whole (after_time bs)

-- `time-offset`
abbrev pub is_offset : List ℕ → Bool
is_offset (z ∷ []) = z == 0x5A || z == 0x7A
is_offset (sign ∷ h1 ∷ h2 ∷ colon ∷ m1 ∷ m2 ∷ []) = (sign == 0x2B || sign == 0x2D) && is_hour_minute h1 h2 colon m1 m2
is_offset _ = false

-- `time-delim`
abbrev pub is_delimiter : ℕ → Bool
is_delimiter t = t == 0x54 || t == 0x74 || t == 0x20

-- the kind of a date-time, by what follows its time
abbrev pub zone_kind : Option (List ℕ) → Option MomentKind
zone_kind None = None
zone_kind (Some []) = Some Local
zone_kind (Some (b ∷ bs)) = if is_offset (b ∷ bs) then Some Offset else None

-- the kind, by what follows a date
abbrev pub kind_behind_date : List ℕ → Option MomentKind
kind_behind_date [] = Some Date
kind_behind_date (t ∷ bs) = if is_delimiter t then zone_kind (after_time bs) else None

-- the kind of a date or a time, where the bytes are one
abbrev pub moment_kind : List ℕ → Option MomentKind
moment_kind bs = if is_date (take 10 bs) then kind_behind_date (drop 10 bs) else (if is_time bs then Some Time else None)
