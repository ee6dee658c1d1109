-- Dates and moments are read part by part. Assumes nothing.
use Rattle.std.proofs.Common.{◌≡◌, ℕ, ◌-◌, ◌≤◌, Bool, true, false, cond, ◌&&◌, List, [], ◌∷◌, ◌++◌, length, take, get_or, Some, None, Option, refl, sym, ap, ◌∙◌, subst, ⊎_elim, length-take, arith}
use Rattle.std.proofs.lemmas.Bool.{cases_eq}
use Rattle.std.proofs.lemmas.List.Folds.{list_all-append}
use Rattle.std.proofs.lemmas.Slice.Eq.{text_from_reads}
use Rattle.std.specs.Option.{option_and_then}
use Rattle.calendar.specs.Calendar.{Date}
use Rattle.calendar.specs.Digits.{is_digit, all_digits, two_at, three_at, two_in, three_in}
use Rattle.calendar.specs.Clock.{Stamp, numbered_stamp, stamp_in}
use Rattle.calendar.specs.Written.{numbered_date, date_at, date_in}
use Rattle.calendar.proofs.Exact.{no_date, no_stamp, day_exact, day_length, moment_exact, moment_length}

-- what comes under two tests comes under the one and then the other
under_both : {X Y : Type 0} (p q : Bool) (o : Option X) (f : Option X → Option Y) → f None ≡ None → cond (p && q) (f o) None ≡ option_and_then (λ x. cond q (f (Some x)) None) (cond p o None)
under_both true true None f e = e
under_both true true (Some x) f e = refl
under_both true false None f e = refl
under_both true false (Some x) f e = refl
under_both false q o f e = refl

first_then : {X Y : Type 0} (xs ys : List ℕ) (o : Option X) (f : Option X → Option Y) → f None ≡ None
    → cond (all_digits (xs ++ ys)) (f o) None ≡ option_and_then (λ x. cond (all_digits ys) (f (Some x)) None) (cond (all_digits xs) o None)
first_then xs ys o f e = ap (λ t. cond t (f o) None) (list_all-append is_digit xs ys) ∙ under_both (all_digits xs) (all_digits ys) o f e

-- ---- dates

abbrev pub date_parts : Option ℕ → Option ℕ → Option ℕ → Option Date
date_parts year month day = option_and_then (λ y. option_and_then (λ m. option_and_then (numbered_date y m) day) month) year

date_in_parts : (a b c d e f g : ℕ) → date_in (a ∷ b ∷ c ∷ d ∷ e ∷ f ∷ g ∷ []) ≡ date_parts (three_in (a ∷ b ∷ c ∷ [])) (two_in (d ∷ e ∷ [])) (two_in (f ∷ g ∷ []))
unfolding date_in
date_in_parts a b c d e f g =
    let year = a ∷ b ∷ c ∷ [] in
    let month = d ∷ e ∷ [] in
    let day = f ∷ g ∷ [] in
    first_then year (month ++ day) (Some (three_at year 0)) (option_and_then (λ y. numbered_date y (two_at month 0) (two_at day 0))) refl
    ∙ (λ i. option_and_then (λ y. (first_then month day (Some (two_at month 0)) (option_and_then (λ m. numbered_date y m (two_at day 0))) refl
    ∙ (λ j. option_and_then (λ m. first_then day [] (Some (two_at day 0)) (option_and_then (numbered_date y m)) refl j) (two_in month))) i) (three_in year))

pub date_read : (bs : List ℕ) → length bs ≡ 7
    → date_in bs ≡ date_parts (three_in (get_or bs 0 0 ∷ get_or bs 1 0 ∷ get_or bs 2 0 ∷ [])) (two_in (get_or bs 3 0 ∷ get_or bs 4 0 ∷ [])) (two_in (get_or bs 5 0 ∷ get_or bs 6 0 ∷ []))
date_read bs h =
    ap date_in (text_from_reads bs (get_or bs 0 0 ∷ get_or bs 1 0 ∷ get_or bs 2 0 ∷ get_or bs 3 0 ∷ get_or bs 4 0 ∷ get_or bs 5 0 ∷ get_or bs 6 0 ∷ []) h (refl, (refl, (refl, (refl, (refl, (refl, (refl, tt))))))))
    ∙ date_in_parts _ _ _ _ _ _ _

-- ---- moments

abbrev pub stamp_parts : Option Date → Option ℕ → Option ℕ → Option ℕ → Option Stamp
stamp_parts date hour minute second = option_and_then (λ d. option_and_then (λ h. option_and_then (λ m. option_and_then (numbered_stamp (Some d) h m) second) minute) hour) date

-- the date, and the last six digits
stamp_in_parts : (a b c d e f g h i k l m n : ℕ) → stamp_in (a ∷ b ∷ c ∷ d ∷ e ∷ f ∷ g ∷ h ∷ i ∷ k ∷ l ∷ m ∷ n ∷ [])
    ≡ stamp_parts (date_in (a ∷ b ∷ c ∷ d ∷ e ∷ f ∷ g ∷ [])) (two_in (h ∷ i ∷ [])) (two_in (k ∷ l ∷ [])) (two_in (m ∷ n ∷ []))
unfolding date_in stamp_in
stamp_in_parts a b c d e f g h i k l m n =
    let date = a ∷ b ∷ c ∷ d ∷ e ∷ f ∷ g ∷ [] in
    let hour = h ∷ i ∷ [] in
    let minute = k ∷ l ∷ [] in
    let second = m ∷ n ∷ [] in
    first_then date (hour ++ (minute ++ second)) (date_at date) (λ d. numbered_stamp d (two_at hour 0) (two_at minute 0) (two_at second 0)) refl
    ∙ (λ p. option_and_then (λ d. (first_then hour (minute ++ second) (Some (two_at hour 0)) (option_and_then (λ h. numbered_stamp (Some d) h (two_at minute 0) (two_at second 0))) refl
    ∙ (λ q. option_and_then (λ h. (first_then minute second (Some (two_at minute 0)) (option_and_then (λ m. numbered_stamp (Some d) h m (two_at second 0))) refl
    ∙ (λ r. option_and_then (λ m. first_then second [] (Some (two_at second 0)) (option_and_then (numbered_stamp (Some d) h m)) refl r) (two_in minute))) q) (two_in hour))) p) (date_in date))

abbrev pub StampRead : List ℕ → Type 0
StampRead bs = stamp_in bs
    ≡ stamp_parts (date_in (take (length bs - 6) bs)) (two_in (get_or bs (length bs - 6) 0 ∷ get_or bs (length bs - 5) 0 ∷ [])) (two_in (get_or bs (length bs - 4) 0 ∷ get_or bs (length bs - 3) 0 ∷ [])) (two_in (get_or bs (length bs - 2) 0 ∷ get_or bs (length bs - 1) 0 ∷ []))

in_thirteen : (bs : List ℕ) → length bs ≡ 13 → StampRead bs
in_thirteen bs h =
    let at = get_or bs in
    subst StampRead (sym (text_from_reads bs (at 0 0 ∷ at 1 0 ∷ at 2 0 ∷ at 3 0 ∷ at 4 0 ∷ at 5 0 ∷ at 6 0 ∷ at 7 0 ∷ at 8 0 ∷ at 9 0 ∷ at 10 0 ∷ at 11 0 ∷ at 12 0 ∷ []) h (refl, (refl, (refl, (refl, (refl, (refl, (refl, (refl, (refl, (refl, (refl, (refl, (refl, tt)))))))))))))))
    (stamp_in_parts _ _ _ _ _ _ _ _ _ _ _ _ _)

pub stamp_read : (bs : List ℕ) → 6 ≤ length bs → StampRead bs
stamp_read bs h = ⊎_elim (in_thirteen bs) (λ n. rw (no_stamp bs n, no_date (take (length bs - 6) bs) (λ l. n (omega (arith, length-take (length bs - 6) bs))))) (cases_eq (length bs) 13)

-- ---- what `Day::read` and `Moment::read` need

pub ruleset days = (date_read, no_date, day_exact, day_length)

pub ruleset moments = (stamp_read, no_stamp, moment_exact, moment_length)
