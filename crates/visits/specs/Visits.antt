-- Visits as they are written: by a day or by a moment. Assumes nothing.
--     written_visit v   the bytes that write a visit
--     day_of v          the day of a visit
--     date_on bs        the date of the visit that the bytes write, if they write one
use Rattle.std.specs.Prelude.{ℕ, List, Some, None, Option}
use Rattle.std.specs.Option.{option_map}
use Rattle.calendar.specs.Calendar.{Date}
use Rattle.calendar.specs.Clock.{stamp_in}
use Rattle.calendar.specs.Days.{written_day}
use Rattle.calendar.specs.Moments.{written_moment}
use Rattle.calendar.specs.Written.{date_in}
use Rattle.calendar.specs.declared.day.Day.{Day}
use Rattle.visits.specs.declared.visit.Visit.{Visit}
use Rattle.visits.specs.declared.visit.Visit.TheVariants.{On, At}

abbrev pub written_visit : Visit → List ℕ
written_visit (On d) = written_day d
written_visit (At m) = written_moment m

abbrev pub day_of : Visit → Day
day_of (On d) = d
day_of (At m) = m.day

abbrev pub either : {X : Type 0} → Option X → Option X → Option X
either (Some x) o = Some x
either None o = o

abbrev pub date_on : List ℕ → Option Date
date_on bs = either (date_in bs) (option_map (λ s. s.date) (stamp_in bs))
