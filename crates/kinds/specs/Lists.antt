-- What code lists of any kind say. Assumes nothing.
--     meaning_of l   what the lists l say: those by shape what shapes say, those by rows what their rows say
--     bounds l       that only lists 1 to 7 have codes, and only codes of 1 to 12 bytes, as all code lists show
use Rattle.std.specs.Prelude.{ℕ, List, IsTrue}
use Rattle.calendar.specs.Calendar.{Date}
use Rattle.lists.specs.Bounds.{bounds_of_shaped}
use Rattle.lists.specs.Kept.{bounds_of_entries}
use Rattle.lists.specs.Lists.{Meaning, may_be_listed}
use Rattle.lists.specs.Making.{meaning_of as rows_meaning}
use Rattle.lists.specs.Shapes.{shaped}
use Rattle.kinds.specs.declared.any_lists.AnyLists.{AnyLists}
use Rattle.kinds.specs.declared.any_lists.AnyLists.TheVariants.{Shape, Rows}

abbrev pub meaning_of : AnyLists → Meaning
meaning_of (Shape l) = shaped
meaning_of (Rows l) = rows_meaning l

pub bounds : (l : AnyLists) (list : ℕ) (code : List ℕ) (date : Date) → IsTrue (meaning_of l list code date) → IsTrue (may_be_listed list code)
bounds (Shape l) = bounds_of_shaped
bounds (Rows l) = bounds_of_entries l.table.entries
