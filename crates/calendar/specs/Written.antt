-- How a date is written: three digits of the year, two of the month, two of the day. Assumes nothing.
--     written_date d        the seven bytes that write the date
--     numbered_date y m d   the date of these numbers, if it is real
--     date_at bs            the real date that the first seven digits write, if they write one
--     date_in bs            the real date that the bytes write, if they write one. Kept shut: whoever builds on it uses its laws
use Rattle.std.specs.Prelude.{ℕ, if◌then◌else◌, List, ◌++◌, Some, None, Option}
use Rattle.calendar.specs.Calendar.{Date, is_real}
use Rattle.calendar.specs.Digits.{if_digits, two_at, three_at, two, three}

abbrev pub written_date : Date → List ℕ
written_date d = three d.year ++ (two d.month ++ two d.day)

abbrev pub numbered_date : ℕ → ℕ → ℕ → Option Date
numbered_date y m d = if is_real y m d then Some (record { year = y; month = m; day = d }) else None

abbrev pub date_at : List ℕ → Option Date
date_at bs = numbered_date (three_at bs 0) (two_at bs 3) (two_at bs 5)

unfoldable pub date_in : List ℕ → Option Date
date_in bs = if_digits 7 bs (date_at bs)
