-- Making lists of rows. Assumes nothing.
--     is_code n bs c   c is the code bs of the list n
--     meaning_of l     what the lists l say: the code stands in the list, and its span has the day
--     Makes rs r       r is what comes of the rows: if one is bad, the refusal of the first such; else lists that say what the rows
--                      say, or that there is not enough memory
use Rattle.std.specs.Prelude.{◌≡◌, ℕ, Bool, ◌&&◌, ◌==◌, List, Result, Ok, Err}
use Rattle.std.specs.Map.{lookup}
use Rattle.std.specs.Option.{option_map}
use Rattle.std.specs.Str.{bytes_eq}
use Rattle.calendar.specs.Calendar.{Date}
use Rattle.reader.specs.declared.faults.Refusal.TheVariants as refusal
use Rattle.lists.specs.Entries.{dates_of}
use Rattle.lists.specs.Lists.{Meaning}
use Rattle.lists.specs.Rows.{NoneIsBad, IsFirstBad, says}
use Rattle.lists.specs.Spans.{has_day}
use Rattle.lists.specs.declared.listed_code.ListedCode.{ListedCode}
use Rattle.lists.specs.declared.ordered_lists.NotMade.{NotMade}
use Rattle.lists.specs.declared.ordered_lists.NotMade.TheVariants.{Refused, Memory}
use Rattle.lists.specs.declared.ordered_lists.OrderedLists.{OrderedLists}
use Rattle.lists.specs.declared.row.Row.{Row}

abbrev pub is_code : ℕ → List ℕ → ListedCode → Bool
is_code list code c = list == c.list && bytes_eq code c.code

abbrev pub meaning_of : OrderedLists → Meaning
meaning_of l list code date = has_day date (option_map dates_of (lookup (is_code list code) l.table.entries))

abbrev pub Makes : List Row → Result OrderedLists NotMade → Type 0
Makes rs (Ok l) = NoneIsBad rs × ((list : ℕ) (code : List ℕ) (date : Date) → meaning_of l list code date ≡ says rs list code date)
Makes rs (Err (Refused (refusal.Row place))) = IsFirstBad rs place
Makes rs (Err (Refused _)) = ⊥
Makes rs (Err (Memory _)) = NoneIsBad rs
