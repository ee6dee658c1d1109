-- What a `Moment` means. It names the struct, so the struct itself does not cite it. Assumes nothing.
--     stamp_of m         the date and time of a moment
--     written_moment m   the thirteen bytes that write it
use Rattle.std.specs.Prelude.{ℕ, List}
use Rattle.calendar.specs.Clock.{Stamp, written_stamp}
use Rattle.calendar.specs.Days.{date_of}
use Rattle.calendar.specs.declared.moment.Moment.{Moment}

abbrev pub stamp_of : Moment → Stamp
stamp_of m = record { date = date_of m.day; hour = m.hour; minute = m.minute; second = m.second }

abbrev pub written_moment : Moment → List ℕ
written_moment m = written_stamp (stamp_of m)
