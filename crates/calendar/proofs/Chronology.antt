-- Year, month and day compared one after another give the order of time. Assumes nothing.
use Rattle.std.proofs.Common.{◌≡◌, ℕ, ◌<◌, Ordering, Less, Equal, Greater, refl, sym, ap, ◌∙◌, subst, arith}
use Rattle.std.specs.Ordering.{MatchOrdering, nat_cmp, is_lt, ordering_then}
use Rattle.std.proofs.lemmas.Bool.Decides.{nat_tests}
use Rattle.std.proofs.lemmas.Cmp.{ranked}
use Rattle.calendar.specs.Calendar.{Date, IsReal}
use Rattle.calendar.specs.Days.{date_of, day_cmp, OrderOfTime}
use Rattle.calendar.specs.Time.{day_number, is_before, InTime, ByParts, date_cmp}
use Rattle.calendar.specs.declared.day.Day.{Day}
use Rattle.calendar.proofs.Counting.{by_year, by_month, by_day}

abbrev Compared : ℕ → ℕ → Ordering → Type 0
Compared x y o = MatchOrdering o (x < y) (x ≡ y) (y < x)

-- the first part in which real dates differ tells how they lie in time
module _ (a b : Date) (ra : IsReal a) (rb : IsReal b) where
  in_time : (y m d : Ordering) → Compared a.year b.year y → Compared a.month b.month m → Compared a.day b.day d → InTime a b (ordering_then (ordering_then y m) d)
  in_time Less m d p q r = by_year a b ra rb p
  in_time Equal Less d p q r = by_month a b ra rb p q
  in_time Equal Equal Less p q r = by_day a b ra rb p q r
  in_time Equal Equal Equal p q r = λ i. record { year = p i; month = q i; day = r i }
  in_time Equal Equal Greater p q r = by_day b a rb ra (sym p) (sym q) r
  in_time Equal Greater d p q r = by_month b a rb ra (sym p) q
  in_time Greater m d p q r = by_year b a rb ra p

  pub parts_in_time : (r : Ordering) → ByParts a b r → InTime a b r
  parts_in_time r p = subst (InTime a b) (sym p.first) (in_time p.years p.months p.days p.by_year p.by_month p.by_day)

  dates_in_time : InTime a b (date_cmp a b)
  dates_in_time = in_time _ _ _ (ranked a.year b.year _ refl) (ranked a.month b.month _ refl) (ranked a.day b.day _ refl)

-- an answer that tells how dates lie in time is that of their numbers
counted : (a b : Date) (r : Ordering) → InTime a b r → r ≡ nat_cmp (day_number a) (day_number b)
counted a b Less h = grind (arith, nat_tests)
counted a b Equal h = let k = ap day_number h in grind (arith, nat_tests)
counted a b Greater h = grind (arith, nat_tests)

-- ---- days

pub order_of_time : OrderOfTime day_cmp
order_of_time = record {
  time = λ a b. dates_in_time (date_of a) (date_of b) a.ok b.ok;
  only = λ a b r h. counted (date_of a) (date_of b) r h ∙ sym (number a b);
  counted = number;
}
  where
    number : (a b : Day) → day_cmp a b ≡ nat_cmp (day_number (date_of a)) (day_number (date_of b))
    number a b = counted (date_of a) (date_of b) _ (dates_in_time (date_of a) (date_of b) a.ok b.ok)

-- what `<` answers of two days
pub lt_days : (a b : Day) → is_lt (day_cmp a b) ≡ is_before (date_of a) (date_of b)
lt_days a b = ap is_lt (order_of_time.counted a b) ∙ grind (arith, nat_tests)
