-- Code lists. Assumes nothing.
--     Meaning             which codes stand in which list on which day: yes or no, by the number of the list, the bytes of the code and the date
--     may_be_listed n c   whether c may be a code of list n: there are lists 1 to 7, and codes have 1 to 12 bytes
use Rattle.std.specs.Prelude.{ℕ, Bool, ◌&&◌, List, length}
use Rattle.calendar.specs.Calendar.{Date}
use Rattle.grammar.specs.Bytes.{within}

abbrev pub Meaning : Type 0
Meaning = ℕ → List ℕ → Date → Bool

abbrev pub may_be_listed : ℕ → List ℕ → Bool
may_be_listed n c = within 1 7 n && within 1 12 (length c)
