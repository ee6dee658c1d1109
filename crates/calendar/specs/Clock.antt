-- Moments: a date and a time of that day. Over numbers alone. Assumes nothing.
--     Stamp                    a date, an hour, a minute and a second as numbers, real or not
--     is_on_clock h m s        whether the day has such a time
--     written_stamp s          the thirteen bytes that write it
--     numbered_stamp d h m s   the moment of a date, if there is one, and of these numbers
--     stamp_at bs              the real moment that the first thirteen digits write, if they write one
--     stamp_in bs              the real moment that the bytes write, if they write one. Kept shut: whoever builds on it uses its laws
use Rattle.std.specs.Prelude.{ℕ, Bool, if◌then◌else◌, ◌&&◌, List, ◌++◌, Some, None, Option, nat_lt}
use Rattle.calendar.specs.Calendar.{Date}
use Rattle.calendar.specs.Digits.{if_digits, two_at, two}
use Rattle.calendar.specs.Written.{written_date, date_at}

pub record Stamp : Type 0 where
  pub date : Date
  pub hour : ℕ
  pub minute : ℕ
  pub second : ℕ

abbrev pub is_on_clock : ℕ → ℕ → ℕ → Bool
is_on_clock h m s = nat_lt h 24 && (nat_lt m 60 && nat_lt s 60)

abbrev pub written_stamp : Stamp → List ℕ
written_stamp s = written_date s.date ++ (two s.hour ++ (two s.minute ++ two s.second))

abbrev pub numbered_stamp : Option Date → ℕ → ℕ → ℕ → Option Stamp
numbered_stamp None h m s = None
numbered_stamp (Some d) h m s = if is_on_clock h m s then Some (record { date = d; hour = h; minute = m; second = s }) else None

abbrev pub stamp_at : List ℕ → Option Stamp
stamp_at bs = numbered_stamp (date_at bs) (two_at bs 7) (two_at bs 9) (two_at bs 11)

unfoldable pub stamp_in : List ℕ → Option Stamp
stamp_in bs = if_digits 13 bs (stamp_at bs)
