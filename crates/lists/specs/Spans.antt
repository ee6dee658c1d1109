-- Spans of days, ends included. Assumes nothing.
--     span_between a b   the dates a and b, if both are there and b is not before a
--     span_in bs cs      the span from the date that bs write to the date that cs write, if they write one
--     is_in d s          the date d is in the span s
--     has_day d o        there is a span, and the date d is in it
use Rattle.std.specs.Prelude.{ℕ, Bool, false, not, ◌&&◌, if◌then◌else◌, List, Option, Some, None}
use Rattle.calendar.specs.Calendar.{Date}
use Rattle.calendar.specs.Time.{is_before}
use Rattle.calendar.specs.Written.{date_in}

abbrev pub span_between : Option Date → Option Date → Option (Date × Date)
span_between (Some a) (Some b) = if is_before b a then None else Some (a, b)
span_between _ _ = None

abbrev pub span_in : List ℕ → List ℕ → Option (Date × Date)
span_in first last = span_between (date_in first) (date_in last)

abbrev pub is_in : Date → Date × Date → Bool
is_in d s = not (is_before d s.0) && not (is_before s.1 d)

abbrev pub has_day : Date → Option (Date × Date) → Bool
has_day d None = false
has_day d (Some s) = is_in d s
