-- What `<` and `<=` answer of two days. Assumes nothing.
use Rattle.std.proofs.Common.{◌≡◌, ℕ, not, nat_lt, ap, ◌∙◌, arith}
use Rattle.std.proofs.lemmas.Bool.Decides.{nat_tests}
use Rattle.std.specs.Ordering.{is_le, is_lt, nat_cmp}
use Rattle.calendar.specs.Days.{date_of, day_cmp}
use Rattle.calendar.specs.Time.{is_before}
use Rattle.calendar.specs.declared.day.Day.{Day}
use Rattle.calendar.proofs.Chronology as calendar

le_numbers : (m n : ℕ) → is_le (nat_cmp m n) ≡ not (nat_lt n m)
le_numbers m n = grind (arith, nat_tests)

pub lt_days : (a b : Day) → is_lt (day_cmp a b) ≡ is_before (date_of a) (date_of b)
lt_days = calendar.lt_days

pub le_days : (a b : Day) → is_le (day_cmp a b) ≡ not (is_before (date_of b) (date_of a))
le_days a b = ap is_le (calendar.order_of_time.counted a b) ∙ le_numbers _ _
