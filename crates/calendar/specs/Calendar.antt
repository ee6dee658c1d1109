-- The calendar of the Republic: which dates are real. Over numbers alone, so that the struct may cite it. Assumes nothing.
--     Date               a year, a month and a day as numbers, real or not
--     gregorian_year y   the Gregorian year of the year y of the Republic
--     is_leap y          whether the year has a 29 February
--     month_length y m   how many days the month m of the year y has
--     is_month y m       whether there is such a month, in the years 1 to 999
--     is_real y m d      whether there is such a day, in the years 1 to 999
--     IsReal d           the date d is a real one
use Rattle.std.specs.Prelude.{ℕ, ◌+◌, ◌%◌, Bool, IsTrue, if◌then◌else◌, not, ◌&&◌, ◌||◌, ◌==◌, nat_le}

pub record Date : Type 0 where
  pub year : ℕ
  pub month : ℕ
  pub day : ℕ

abbrev pub gregorian_year : ℕ → ℕ
gregorian_year y = y + 1911

-- every fourth year, but of the full centuries only every fourth
abbrev pub is_leap : ℕ → Bool
is_leap y = gregorian_year y % 4 == 0 && (not (gregorian_year y % 100 == 0) || gregorian_year y % 400 == 0)

-- April, June, September and November
abbrev pub has_thirty_days : ℕ → Bool
has_thirty_days m = m == 4 || (m == 6 || (m == 9 || m == 11))

abbrev pub month_length : ℕ → ℕ → ℕ
month_length y m = if m == 2 then (if is_leap y then 29 else 28) else (if has_thirty_days m then 30 else 31)

abbrev pub is_between : ℕ → ℕ → ℕ → Bool
is_between low n high = nat_le low n && nat_le n high

abbrev pub is_month : ℕ → ℕ → Bool
is_month y m = is_between 1 y 999 && is_between 1 m 12

abbrev pub is_real : ℕ → ℕ → ℕ → Bool
is_real y m d = is_between 1 y 999 && (is_between 1 m 12 && is_between 1 d (month_length y m))

abbrev pub IsReal : Date → Type 0
IsReal d = IsTrue (is_real d.year d.month d.day)
