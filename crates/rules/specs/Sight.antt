-- The view that is seen. It names the struct, so the struct itself does not cite it. Assumes nothing.
--     view_of m s    what the rules see, where m is the meaning of the code lists
use Rattle.calendar.specs.Days.{date_of}
use Rattle.lists.specs.Lists.{Meaning}
use Rattle.marks.specs.Numbers.{number_in}
use Rattle.cells.specs.Cells.{value_at}
use Rattle.rules.specs.Views.{View}
use Rattle.rules.specs.declared.seen.Seen.{Seen}

abbrev pub view_of : {L : Type 0} → (L → Meaning) → Seen L → View
view_of m s = record { today = date_of s.today; listed = m s.lists.now; value = value_at s.cells; stood = number_in s.numbers; ordered = s.ordered }
