-- The laws of the due day. Assumes nothing.
use Rattle.std.proofs.Common.{◌≡◌, ℕ, pred, ◌+◌, ◌<◌, ◌≤◌, min, eqb, sym, refl, ap, ap₂, ⊎_elim, arith}
use Rattle.std.proofs.lemmas.Bool.{cases_lt, cond_both, eqb-true, eqb-false}
use Rattle.std.proofs.lemmas.Bool.Decides.{nat_tests}
use Rattle.calendar.specs.Calendar.{Date, IsReal, month_length}
use Rattle.calendar.specs.Due.{month_after, last_of, due_of, month_count, DueLaw, Term, Samples}
use Rattle.calendar.specs.Digits.{two, three}
use Rattle.calendar.specs.Written.{date_in}
use Rattle.calendar.specs.Time.{days_through, days_before, day_number, IsBefore}
use Rattle.calendar.proofs.Counting.{in_year, in_month, by_year, by_month}

-- ---- months in time

-- real dates of one month agree in year and month
one_month : (a b : Date) → IsReal a → IsReal b → month_count a ≡ month_count b → (a.year ≡ b.year) × (a.month ≡ b.month)
one_month a b ra rb e =
    let p = in_month a.year a.month a.day ra in
    let q = in_month b.year b.month b.day rb in
    (omega arith, omega arith)

by_count : (a b : Date) → IsReal a → IsReal b → month_count a < month_count b → IsBefore a b
by_count a b ra rb h =
    let p = in_month a.year a.month a.day ra in
    let q = in_month b.year b.month b.day rb in
    ⊎_elim (by_year a b ra rb) (λ l. by_month a b ra rb (omega arith) (omega arith)) (cases_lt a.year b.year)

not_after : (a b : Date) → a.year ≡ b.year → a.month ≡ b.month → b.day ≤ a.day → IsBefore a b → ⊥
unfolding day_number
not_after a b e f h l =
    let x = ap days_before e in
    let y : days_through a.year (pred a.month) ≡ days_through b.year (pred b.month) = λ i. days_through (e i) (pred (f i)) in
    omega arith

-- ---- the due day

last_real : (y m : ℕ) → 1 ≤ y → y ≤ 999 → 1 ≤ m → m ≤ 12 → IsReal (last_of (y, m))
last_real y m a b c d = grind (arith, nat_tests)

-- the due day is the last of a month: that after, as far as there is one
abbrev Follows : Date → ℕ × ℕ → Type 0
Follows v m = IsReal (last_of m) × (month_count (last_of m) ≡ min (month_count v + 1) 12000)

follows : (v : Date) → IsReal v → Follows v (month_after v.year v.month)
follows v r =
    let p = in_year v.year v.month v.day r in
    let q = in_month v.year v.month v.day r in
    cond_both (eqb v.month 12) _ _ (Follows v)
    (λ e. let m = eqb-true v.month 12 e in
    cond_both (eqb v.year 999) _ _ (Follows v)
    (λ f. let y = eqb-true v.year 999 f in (last_real v.year v.month (omega arith) (omega arith) (omega arith) (omega arith), grind arith))
    (λ f. let y = eqb-false v.year 999 f in (last_real (v.year + 1) 1 (omega arith) (omega arith) (omega arith) (omega arith), grind arith)))
    (λ e. let m = eqb-false v.month 12 e in (last_real v.year (v.month + 1) (omega arith) (omega arith) (omega arith) (omega arith), grind arith))

module _ (v : Date) (r : IsReal v) (m : ℕ × ℕ) (f : Follows v m) where
  law_of : DueLaw v (last_of m)
  law_of =
      let p = in_year v.year v.month v.day r in
      let q = in_month v.year v.month v.day r in
      let s = in_year m.0 m.1 (month_length m.0 m.1) f.0 in
      let t = in_month m.0 m.1 (month_length m.0 m.1) f.0 in
      let c = f.1 in
      record {
        real = f.0;
        month = λ ends_in. ⊎_elim (λ l. grind arith) (λ g. absurd (ends_in (omega arith, omega arith))) (cases_lt (month_count v) 12000);
        final = λ e. let a = e.0 in let b = e.1 in let y : m.0 ≡ 999 = grind arith in let x : m.1 ≡ 12 = grind arith in λ i. last_of (y i, x i);
        last = λ d rd e.
            let o = one_month d (last_of m) rd f.0 e in
            let l : d.day ≤ month_length d.year d.month = (in_month d.year d.month d.day rd).3 in
            not_after (last_of m) d (sym o.0) (sym o.1) (omega (arith, ap₂ month_length o.0 o.1));
      }

pub due_law : (v : Date) → IsReal v → DueLaw v (due_of v)
unfolding due_of
due_law v r = law_of v r (month_after v.year v.month) (follows v r)

due_count : (v : Date) → IsReal v → month_count (due_of v) ≡ min (month_count v + 1) 12000
unfolding due_of
due_count v r = (follows v r).1

due_after : (v : Date) → IsReal v → month_count v ≤ month_count (due_of v)
due_after v r =
    let p = in_year v.year v.month v.day r in
    let q = in_month v.year v.month v.day r in
    let c = due_count v r in
    grind arith

-- no day of the due day's month or of an earlier one is past it
none_past : (v d : Date) → IsReal v → IsReal d → month_count d ≤ month_count (due_of v) → IsBefore (due_of v) d → ⊥
none_past v d r s h l =
    let law = due_law v r in
    ⊎_elim (λ k. let b = by_count d (due_of v) s law.real k in omega arith) (λ k. law.last d s (omega arith) l) (cases_lt (month_count d) (month_count (due_of v)))

pub term : Term due_of
term = record {
  real = λ v r. (due_law v r).real;
  not_before = λ v r. none_past v v r r (due_after v r);
  steady = λ v w r s h.
      let c = due_count v r in
      let d = due_count w s in
      let l : month_count v ≤ month_count w = ⊎_elim (λ k. absurd (h (by_count w v s r k))) (λ k. k) (cases_lt (month_count w) (month_count v)) in
      none_past w (due_of v) s (due_law v r).real (grind arith);
}

pub samples : Samples
unfolding due_of date_in two three
samples = record { thirty_one = refl; leap_february = refl; new_year = refl; common_february = refl; no_day = refl }
