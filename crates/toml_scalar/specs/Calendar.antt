-- The months of the Gregorian calendar, of the years from 0 on.
use Rattle.std.specs.Prelude.{ℕ, ◌%◌, Bool, ◌||◌, ◌&&◌, not, ◌==◌, if◌then◌else◌}

-- a multiple of 4 and not of 100, or of 400
abbrev pub is_leap : ℕ → Bool
is_leap y = (y % 4 == 0 && not (y % 100 == 0)) || y % 400 == 0

-- how many days a month of a year has
abbrev pub days_in : ℕ → ℕ → ℕ
days_in y m = if m == 2 then (if is_leap y then 29 else 28) else (if m == 4 || m == 6 || m == 9 || m == 11 then 30 else 31)
