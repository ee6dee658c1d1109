-- What is answered to a line. Assumes nothing.
--     Answer           what an answer is: a visit with its due day, or the error that says there is none
--     Answers line a   a is the answer to the line: the visit that it writes with its due day, or that it writes none
--     reply_to line    the text of the answer to the line
--     wording a        the text of an answer
use Rattle.std.specs.Prelude.{◌≡◌, ℕ, List, ◌++◌, Some, None, Ok, Err, codes, Option, ◌≢◌}
use Rattle.std.specs.declared.result.Result.{Result}
use Rattle.calendar.specs.Calendar.{Date}
use Rattle.calendar.specs.Days.{date_of, written_day}
use Rattle.calendar.specs.Due.{due_of}
use Rattle.calendar.specs.Written.{written_date}
use Rattle.visits.specs.Lines.{text}
use Rattle.visits.specs.Visits.{written_visit, day_of, date_on}
use Rattle.visits.specs.declared.answer.Due.{Due}
use Rattle.visits.specs.declared.answer.NoDay.{NoDay}
use Rattle.visits.specs.declared.visit.Visit.{Visit}

abbrev pub Answer : Type 0
Answer = Result Due NoDay

abbrev pub Answers : List ℕ → Answer → Type 0
Answers line (Ok d) = (written_visit d.visit ≡ text line) × (date_of d.due ≡ due_of (date_of (day_of d.visit)))
Answers line (Err e) = (v : Visit) → written_visit v ≢ text line

abbrev pub reply : List ℕ → Option Date → List ℕ
reply visit (Some d) = visit ++ (codes " " ++ written_date (due_of d))
reply visit None = codes "no day"

abbrev pub reply_to : List ℕ → List ℕ
reply_to line = reply (text line) (date_on (text line))

abbrev pub wording : Answer → List ℕ
wording (Ok d) = written_visit d.visit ++ (codes " " ++ written_day d.due)
wording (Err e) = codes "no day"
