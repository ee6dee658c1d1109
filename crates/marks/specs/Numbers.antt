-- Sets of the numbers of orders. Assumes nothing.
--     number_in s n    whether the number n is in the set s
use Rattle.std.specs.Prelude.{ℕ, Bool, false, slice_index_or}
use Rattle.marks.specs.declared.numbers.OrderNumbers.{OrderNumbers}

abbrev pub number_in : OrderNumbers → ℕ → Bool
number_in s n = slice_index_or s.marks n false
