-- A later year, month or day has a greater number. Assumes nothing.
use Rattle.std.proofs.Common.{◌≡◌, ℕ, zero, suc, pred, ◌+◌, ◌<◌, ◌≤◌, true, ap, ⊎_elim, arith}
use Rattle.std.proofs.Math.Nat.{le-suc_iff}
use Rattle.std.proofs.lemmas.Bool.Decides.{nat_tests}
use Rattle.calendar.specs.Calendar.{Date, is_real, IsReal, month_length}
use Rattle.calendar.specs.Time.{days_through, days_before, day_number, IsBefore}

-- what of reality the count needs
pub in_year : (y m d : ℕ) → is_real y m d ≡ true → (1 ≤ y) × (y ≤ 999)
in_year y m d h = grind (arith, nat_tests)

pub in_month : (y m d : ℕ) → is_real y m d ≡ true → (1 ≤ m) × (m ≤ 12) × (1 ≤ d) × (d ≤ month_length y m)
in_month y m d h = grind (arith, nat_tests)

-- what never falls from one number to the next never falls at all
climbs : (f : ℕ → ℕ) → ((n : ℕ) → f n ≤ f (suc n)) → (m n : ℕ) → m ≤ n → f m ≤ f n
climbs f up m zero h = let e : m ≡ 0 = omega arith in omega (arith, ap f e)
climbs f up m (suc n) h = ⊎_elim (λ l. let k = climbs f up m n l in let u = up n in omega arith) (λ e. omega (arith, ap f e)) (le-suc_iff.0 h)

through_up : (y m n : ℕ) → m ≤ n → days_through y m ≤ days_through y n
through_up y = climbs (days_through y) (λ n. omega arith)

before_up : (x y : ℕ) → x < y → days_before x + days_through x 12 ≤ days_before y
before_up x y h = climbs days_before (λ n. omega arith) (suc x) y (omega arith)

-- a real date lies behind the months before its own, and within its own
month_end : (y m d : ℕ) → is_real y m d ≡ true → (days_through y (pred m) < days_through y (pred m) + d) × (days_through y (pred m) + d ≤ days_through y m)
month_end y zero d h = let r = in_month y 0 d h in omega arith
month_end y (suc m) d h = let r = in_month y (suc m) d h in omega arith

-- ---- days in time

module _ (a b : Date) (ra : IsReal a) (rb : IsReal b) where
  pub by_year : a.year < b.year → IsBefore a b
  unfolding day_number
  by_year h =
      let p = month_end a.year a.month a.day ra in
      let q = month_end b.year b.month b.day rb in
      let u = through_up a.year a.month 12 (in_month a.year a.month a.day ra).1 in
      let v = before_up a.year b.year h in
      omega arith

  pub by_month : a.year ≡ b.year → a.month < b.month → IsBefore a b
  unfolding day_number
  by_month e h =
      let p = month_end a.year a.month a.day ra in
      let q = month_end b.year b.month b.day rb in
      let u = through_up b.year a.month (pred b.month) (omega arith) in
      let x = ap days_before e in
      let y = ap (λ y. days_through y a.month) e in
      omega arith

  pub by_day : a.year ≡ b.year → a.month ≡ b.month → a.day < b.day → IsBefore a b
  unfolding day_number
  by_day e f h =
      let x = ap days_before e in
      let y : days_through a.year (pred a.month) ≡ days_through b.year (pred b.month) = λ i. days_through (e i) (pred (f i)) in
      omega arith
