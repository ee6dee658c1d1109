-- The order of days is that of time: days are counted on. Assumes nothing.
--     days_through y m   how many days the months 1 to m of the year y have
--     days_before y      how many days the years 0 to y - 1 have
--     day_number d       the days up to the date, itself included
--     IsBefore a b       a comes before b in time; is_before a b tests it
--     InTime a b r       r says how a and b lie in time
--     date_cmp a b       how a and b compare by year, then month, then day
--     ByParts a b r      r says so, told part by part
use Rattle.std.specs.Prelude.{◌≡◌, ℕ, zero, suc, pred, ◌+◌, ◌<◌, Bool, nat_lt}
use Rattle.std.specs.declared.cmp.Ordering.{Ordering}
use Rattle.std.specs.Ordering.{MatchOrdering, nat_cmp, on, ordering_then, then_cmp}
use Rattle.calendar.specs.Calendar.{Date, month_length}

abbrev pub days_through : ℕ → ℕ → ℕ
days_through y zero = 0
days_through y (suc m) = days_through y m + month_length y (suc m)

abbrev pub days_before : ℕ → ℕ
days_before zero = 0
days_before (suc y) = days_before y + days_through y 12

unfoldable pub day_number : Date → ℕ
day_number d = days_before d.year + days_through d.year (pred d.month) + d.day

abbrev pub IsBefore : Date → Date → Type 0
IsBefore a b = day_number a < day_number b

abbrev pub is_before : Date → Date → Bool
is_before a b = nat_lt (day_number a) (day_number b)

abbrev pub InTime : Date → Date → Ordering → Type 0
InTime a b r = MatchOrdering r (IsBefore a b) (a ≡ b) (IsBefore b a)

abbrev pub date_cmp : Date → Date → Ordering
date_cmp = then_cmp (then_cmp (on (λ d. d.year) nat_cmp) (on (λ d. d.month) nat_cmp)) (on (λ d. d.day) nat_cmp)

-- how year, month and day compare, and r is the first that differs
pub record ByParts (a b : Date) (r : Ordering) : Type 0 where
  pub years : Ordering
  pub months : Ordering
  pub days : Ordering
  pub by_year : MatchOrdering years (a.year < b.year) (a.year ≡ b.year) (b.year < a.year)
  pub by_month : MatchOrdering months (a.month < b.month) (a.month ≡ b.month) (b.month < a.month)
  pub by_day : MatchOrdering days (a.day < b.day) (a.day ≡ b.day) (b.day < a.day)
  pub first : r ≡ ordering_then (ordering_then years months) days
