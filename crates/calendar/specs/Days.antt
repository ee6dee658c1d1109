-- What a `Day` means, and the order of days. It names the struct, so the struct itself does not cite it. Assumes nothing.
--     date_of d         the date of a day
--     written_day d     the seven bytes that write it
--     DayOrder a b r    r says how the days a and b lie in time
--     day_cmp a b       how they compare by year, then month, then day
--     OrderOfTime cmp   what cmp answers of two days is how they lie in time
use Rattle.std.specs.Prelude.{◌≡◌, ℕ, List}
use Rattle.std.specs.declared.cmp.Ordering.{Ordering}
use Rattle.std.specs.Ordering.{on, nat_cmp}
use Rattle.calendar.specs.Calendar.{Date}
use Rattle.calendar.specs.Time.{day_number, InTime, date_cmp}
use Rattle.calendar.specs.Written.{written_date}
use Rattle.calendar.specs.declared.day.Day.{Day}

abbrev pub date_of : Day → Date
date_of d = record { year = d.year; month = d.month; day = d.day }

abbrev pub written_day : Day → List ℕ
written_day d = written_date (date_of d)

abbrev pub DayOrder : Day → Day → Ordering → Type 0
DayOrder a b = InTime (date_of a) (date_of b)

abbrev pub day_cmp : Day → Day → Ordering
day_cmp = on date_of date_cmp

-- it answers how the days lie in time and nothing else is an answer to that: it compares the numbers of the days
pub record OrderOfTime (cmp : Day → Day → Ordering) : Type 0 where
  pub time : (a b : Day) → DayOrder a b (cmp a b)
  pub only : (a b : Day) (r : Ordering) → DayOrder a b r → r ≡ cmp a b
  pub counted : (a b : Day) → cmp a b ≡ nat_cmp (day_number (date_of a)) (day_number (date_of b))
