-- Reading and writing dates and moments are inverse to one another. Assumes nothing.
use Rattle.std.proofs.Common.{◌≡◌, ℕ, ◌<◌, Bool, true, false, cond, ◌&&◌, eqb, List, [], ◌++◌, length, drop, Some, None, Option, sym, refl, ap, ◌∙◌, subst, arith}
use Rattle.std.proofs.lemmas.List.{drop_all}
use Rattle.std.proofs.lemmas.Bool.{and_parts, and_left, eqb-true, ne_eqb, cond-true, cond-false}
use Rattle.std.proofs.lemmas.Bool.Decides.{nat_tests}
use Rattle.std.specs.Option.{option_map}
use Rattle.calendar.specs.Calendar.{Date, is_real, IsReal}
use Rattle.calendar.specs.Clock.{Stamp, is_on_clock, written_stamp, numbered_stamp, stamp_in}
use Rattle.calendar.specs.Days.{date_of, written_day}
use Rattle.calendar.specs.Digits.{all_digits, two_at, three_at, two, three}
use Rattle.calendar.specs.Exact.{Reads}
use Rattle.calendar.specs.Moments.{stamp_of, written_moment}
use Rattle.calendar.specs.Written.{written_date, numbered_date, date_in}
use Rattle.calendar.specs.declared.day.Day.{Day}
use Rattle.calendar.specs.declared.moment.Moment.{Moment}
use Rattle.calendar.proofs.Figures.{two_digits, three_digits, two_back, three_back, two_first, three_first}

-- a value that comes only under a test
under : {X : Type 0} (b : Bool) (o : Option X) (x : X) → cond b o None ≡ Some x → (b ≡ true) × (o ≡ Some x)
under true o x h = (refl, h)
under false o x h = cc

-- what is read so that whatever is written is read back, and whatever is read was written, is read exactly
exact : {X Y : Type 0} (of : X → Y) (write : Y → List ℕ) (bs : List ℕ) (o : Option Y) → ((x : X) → write (of x) ≡ bs → o ≡ Some (of x)) → ((y : Y) → o ≡ Some y → write y ≡ bs) → (r : Option X) → option_map of r ≡ o → Reads (λ x. write (of x)) bs r
exact of write bs o back first None e = λ x w. let h = e ∙ back x w in cc
exact of write bs o back first (Some x) e = first (of x) (sym e)

-- ---- dates

pub small : (y m d : ℕ) → is_real y m d ≡ true → (y < 1000) × (m < 100) × (d < 100)
small y m d h = grind (arith, nat_tests)

module _ (d : Date) (h : IsReal d) (rest : List ℕ) where
  date_digits : all_digits rest ≡ true → all_digits (written_date d ++ rest) ≡ true
  unfolding two three
  date_digits e = three_digits d.year (two d.month ++ (two d.day ++ rest)) (two_digits d.month (two d.day ++ rest) (two_digits d.day rest e))

  numbered_back : numbered_date (three_at (written_date d ++ rest) 0) (two_at (written_date d ++ rest) 3) (two_at (written_date d ++ rest) 5) ≡ Some d
  unfolding two three
  numbered_back =
      let s = small d.year d.month d.day h in
      (λ i. numbered_date (three_back d.year s.0 i) (two_back d.month s.1 i) (two_back d.day s.2 i)) ∙ cond-true _ _ _ h

pub date_back : (d : Date) → IsReal d → date_in (written_date d) ≡ Some d
unfolding two three date_in
date_back d h = cond-true _ _ _ (date_digits d h [] refl) ∙ numbered_back d h []

abbrev date_found : List ℕ → Date
date_found bs = record { year = three_at bs 0; month = two_at bs 3; day = two_at bs 5 }

date_first : (bs : List ℕ) → all_digits bs ≡ true → 6 < length bs → bs ≡ written_date (date_found bs) ++ drop 7 bs
unfolding two three
date_first bs h l =
    three_first bs h 0 (omega arith)
    ∙ ap (λ r. three (three_at bs 0) ++ r) (two_first bs h 3 (omega arith) ∙ ap (λ r. two (two_at bs 3) ++ r) (two_first bs h 5 (omega arith)))

-- the bytes that a test of length and digits passes
passed : {X : Type 0} (n : ℕ) (bs : List ℕ) (o : Option X) (x : X) → cond (eqb (length bs) n && all_digits bs) o None ≡ Some x → (length bs ≡ n) × (all_digits bs ≡ true) × (o ≡ Some x)
passed n bs o x h =
    let a = under (eqb (length bs) n && all_digits bs) o x h in
    let p = and_parts (eqb (length bs) n) (all_digits bs) a.0 in
    (eqb-true (length bs) n p.0, p.1, a.1)

pub date_written : (bs : List ℕ) (d : Date) → date_in bs ≡ Some d → written_date d ≡ bs
unfolding two three date_in
date_written bs d h =
    let p = passed 7 bs _ d h in
    let n = (under (is_real (three_at bs 0) (two_at bs 3) (two_at bs 5)) (Some (date_found bs)) d p.2).1 in
    let e : date_found bs ≡ d = cc in
    ap written_date (sym e) ∙ ap (λ r. written_date (date_found bs) ++ r) (sym (drop_all 7 bs (omega arith))) ∙ sym (date_first bs p.1 (omega arith))

-- bytes of another length write no date
pub no_date : (bs : List ℕ) → (length bs ≡ 7 → ⊥) → date_in bs ≡ None
unfolding date_in
no_date bs h = cond-false _ _ _ (and_left _ _ (ne_eqb (length bs) 7 h))

-- ---- moments

pub timed : (h m s : ℕ) → is_on_clock h m s ≡ true → (h < 100) × (m < 100) × (s < 100)
timed h m s t = grind (arith, nat_tests)

pub stamp_back : (s : Stamp) → IsReal s.date → is_on_clock s.hour s.minute s.second ≡ true → stamp_in (written_stamp s) ≡ Some s
unfolding two three stamp_in
stamp_back s h t =
    let l = timed s.hour s.minute s.second t in
    let clock = two s.hour ++ (two s.minute ++ two s.second) in
    cond-true _ _ _ (date_digits s.date h clock (two_digits s.hour (two s.minute ++ two s.second) (two_digits s.minute (two s.second) (two_digits s.second [] refl))))
    ∙ (λ i. numbered_stamp (numbered_back s.date h clock i) (two_back s.hour l.0 i) (two_back s.minute l.1 i) (two_back s.second l.2 i))
    ∙ cond-true _ _ _ t

in_stamped : (b : Bool) (d : Date) (h m s : ℕ) (x : Stamp) → numbered_stamp (cond b (Some d) None) h m s ≡ Some x → ◌≡◌ {A = Stamp} (record { date = d; hour = h; minute = m; second = s }) x
in_stamped true d h m s x e = let n = (under (is_on_clock h m s) (Some (record { date = d; hour = h; minute = m; second = s })) x e).1 in cc
in_stamped false d h m s x e = cc

pub stamp_written : (bs : List ℕ) (s : Stamp) → stamp_in bs ≡ Some s → written_stamp s ≡ bs
unfolding two stamp_in
stamp_written bs s h =
    let p = passed 13 bs _ s h in
    let e = in_stamped (is_real (three_at bs 0) (two_at bs 3) (two_at bs 5)) (date_found bs) (two_at bs 7) (two_at bs 9) (two_at bs 11) s p.2 in
    let rest = two_first bs p.1 7 (omega arith) ∙ ap (λ r. two (two_at bs 7) ++ r) (two_first bs p.1 9 (omega arith) ∙ ap (λ r. two (two_at bs 9) ++ r) (two_first bs p.1 11 (omega arith) ∙ ap (λ r. two (two_at bs 11) ++ r) (drop_all 13 bs (omega arith)))) in
    ap written_stamp (sym e) ∙ ap (λ r. written_date (date_found bs) ++ r) (sym rest) ∙ sym (date_first bs p.1 (omega arith))

pub no_stamp : (bs : List ℕ) → (length bs ≡ 13 → ⊥) → stamp_in bs ≡ None
unfolding stamp_in
no_stamp bs h = cond-false _ _ _ (and_left _ _ (ne_eqb (length bs) 13 h))

-- ---- days and moments

pub day_length : (d : Day) → length (written_day d) ≡ 7
unfolding two three
day_length d = refl

pub moment_length : (m : Moment) → length (written_moment m) ≡ 13
unfolding two three
moment_length m = refl

pub day_exact : (bs : List ℕ) (r : Option Day) → option_map date_of r ≡ date_in bs → Reads written_day bs r
day_exact bs r = exact date_of written_date bs (date_in bs) (λ d w. subst (λ l. date_in l ≡ Some (date_of d)) w (date_back (date_of d) d.ok)) (date_written bs) r

pub moment_exact : (bs : List ℕ) (r : Option Moment) → option_map stamp_of r ≡ stamp_in bs → Reads written_moment bs r
moment_exact bs r = exact stamp_of written_stamp bs (stamp_in bs) (λ m w. subst (λ l. stamp_in l ≡ Some (stamp_of m)) w (stamp_back (stamp_of m) m.day.ok m.ok)) (stamp_written bs) r
