-- The due day of a visit: until it, the last day of the next month, the visit may be corrected. Assumes nothing.
--     month_after y m   the month after the month m of the year y
--     last_of (y, m)    the last day of a month
--     due_of v          the due day of a visit on the date v. Kept shut: whoever builds on it uses the laws below
--     month_count d     the months up to the date, its own included
--     IsFinal d         the date lies in December of the year 999, after which there is no month
--     DueLaw v d        d is the due day of v, told by months and without a formula for the length of one
--     Term due          what holds of due days whatever the term is
--     is_past_due d v   whether the day d is past the due day of a visit on v
--     Samples           visits as they are written, with their due days
use Rattle.std.specs.Prelude.{◌≡◌, ℕ, ◌+◌, ◌*◌, Bool, if◌then◌else◌, List, Some, None, codes, Option, ◌==◌}
use Rattle.std.specs.Option.{option_map}
use Rattle.calendar.specs.Calendar.{Date, IsReal, month_length}
use Rattle.calendar.specs.Time.{IsBefore, is_before}
use Rattle.calendar.specs.Written.{written_date, date_in}

-- the last month of all is followed by itself
abbrev pub month_after : ℕ → ℕ → ℕ × ℕ
month_after y m = if m == 12 then (if y == 999 then (y, m) else (y + 1, 1)) else (y, m + 1)

abbrev pub last_of : ℕ × ℕ → Date
last_of m = record { year = m.0; month = m.1; day = month_length m.0 m.1 }

unfoldable pub due_of : Date → Date
due_of v = last_of (month_after v.year v.month)

abbrev pub month_count : Date → ℕ
month_count d = d.year * 12 + d.month

abbrev pub IsFinal : Date → Type 0
IsFinal d = (d.year ≡ 999) × (d.month ≡ 12)

-- it lies in the month after, or on the very last day, and no day of its month comes after it
pub record DueLaw (visit due : Date) : Type 0 where
  pub real : IsReal due
  pub month : ¬ IsFinal visit → month_count due ≡ month_count visit + 1
  pub final : IsFinal visit → due ≡ record { year = 999; month = 12; day = 31 }
  pub last : (d : Date) → IsReal d → month_count d ≡ month_count due → ¬ IsBefore due d

-- a visit is never past due on its own day, and a later visit is not due earlier
pub record Term (due : Date → Date) : Type 0 where
  pub real : (v : Date) → IsReal v → IsReal (due v)
  pub not_before : (v : Date) → IsReal v → ¬ IsBefore (due v) v
  pub steady : (v w : Date) → IsReal v → IsReal w → ¬ IsBefore w v → ¬ IsBefore (due w) (due v)

abbrev pub is_past_due : Date → Date → Bool
is_past_due d v = is_before (due_of v) d

-- the due day of a written visit, as it is written
abbrev pub due_text : List ℕ → Option (List ℕ)
due_text bs = option_map (λ v. written_date (due_of v)) (date_in bs)

pub record Samples : Type 0 where
  pub thirty_one : due_text (codes "1130615") ≡ Some (codes "1130731")
  pub leap_february : due_text (codes "1130131") ≡ Some (codes "1130229")
  pub new_year : due_text (codes "1121231") ≡ Some (codes "1130131")
  pub common_february : due_text (codes "1890115") ≡ Some (codes "1890228")
  pub no_day : date_in (codes "1120229") ≡ None
