-- The faults of a call rise by record, rule, place and field. Assumes nothing.
use Rattle.std.proofs.Common.{◌≡◌, ℕ, zero, suc, ◌+◌, ◌≤◌, List, [], ◌∷◌, take, ◌⊎◌, inl, inr, Option, Some, None, refl, sym, ap, subst, arith}
use Rattle.std.proofs.lemmas.List.Elements.{All-head, All-tail}
use Rattle.std.specs.List.{All, AllByRecursion}
use Rattle.grammar.proofs.Tested.{test_from_lawful}
use Rattle.records.proofs.Uploads.{records_stand}
use Rattle.records.specs.Orderly.{WellFormed}
use Rattle.records.specs.Records.{Record}
use Rattle.faults.proofs.Along.{in_cases}
use Rattle.faults.proofs.Order.{rises_append}
use Rattle.faults.specs.Along.{In, RisesBy}
use Rattle.faults.specs.Order.{Before, Rises}
use Rattle.faults.specs.declared.report.Fault.{Fault}
use Rattle.faults.specs.declared.rules.Rule.{Rule}
use Rattle.register.specs.Contents.{Contents}
use Rattle.verdicts.proofs.Laws.{fault_law}
use Rattle.verdicts.specs.Sights.{Setting}
use Rattle.verdicts.specs.Faults.{faults_of, first_told}
use Rattle.receiving.specs.Contents.{records_in}
use Rattle.receiving.specs.Judging.{standing_faults, faults_told, faults_along}
use Rattle.receiving.specs.Events.{Event}
use Rattle.receiving.specs.Receiving.{setting_on, told_of, Received, goes_back, taken}
use Rattle.receiving.proofs.Taking.{limits}
use Rattle.receiving.proofs.Reading.{in_each}

module _ {A : Type 0} (R : A → A → Type 0) where
  all_taken : (P : A → Type 0) (k : ℕ) (xs : List A) → AllByRecursion P xs → AllByRecursion P (take k xs)
  all_taken P zero xs h = tt
  all_taken P (suc k) [] h = tt
  all_taken P (suc k) (x ∷ xs) h = (h.0, all_taken P k xs h.1)

  taken_rises : (k : ℕ) (xs : List A) → RisesBy R xs → RisesBy R (take k xs)
  taken_rises zero xs h = tt
  taken_rises (suc k) [] h = tt
  taken_rises (suc k) (x ∷ xs) h = (all_taken (R x) k xs h.0, taken_rises k xs h.1)

module _ (s : Setting) (upload : List ℕ) where
  -- those of a record have its number, and rise
  module _ (n : ℕ) (x : Record) (v : Option Rule) where
    one_numbered : (v : Option Rule) (y : Fault) → In y (standing_faults n x v) → y.«record» ≡ n
    one_numbered None y i = absurd i
    one_numbered (Some r) y (inl e) = ap (λ f. f.«record») e
    one_numbered (Some r) y (inr i) = absurd i

    one_rises : (v : Option Rule) → Rises (standing_faults n x v)
    one_rises None = tt
    one_rises (Some r) = (tt, tt)

    numbered : (fs : List Fault) → faults_of s n x ≡ fs → (y : Fault) → In y (first_told fs (standing_faults n x v)) → y.«record» ≡ n
    numbered [] e y i = one_numbered v y i
    numbered (f ∷ fs) e y i = (fault_law s n x).numbered y (subst (In y) (sym e) i)

    rise : WellFormed upload x → (fs : List Fault) → faults_of s n x ≡ fs → Rises (first_told fs (standing_faults n x v))
    rise h [] e = one_rises v
    rise h (f ∷ fs) e = subst Rises e ((fault_law s n x).rises upload h)

  -- and those of later records have higher ones
  later : (n : ℕ) (xs : List Record) (vs : List (Option Rule)) (y : Fault) → In y (faults_along s n xs vs) → n ≤ y.«record»
  later n [] vs y i = absurd i
  later n (x ∷ xs) [] y i = absurd i
  later n (x ∷ xs) (v ∷ vs) y i = by (later (n + 1) xs vs y) (in_cases y (faults_told s n x v) (faults_along s (n + 1) xs vs) i)
    where
      by : (In y (faults_along s (n + 1) xs vs) → n + 1 ≤ y.«record») → In y (faults_told s n x v) ⊎ In y (faults_along s (n + 1) xs vs) → n ≤ y.«record»
      by rest (inl j) = omega (arith, numbered n x v (faults_of s n x) refl y j)
      by rest (inr j) = omega (arith, rest j)

  all_rise : (n : ℕ) (xs : List Record) (vs : List (Option Rule)) → All (WellFormed upload) xs → Rises (faults_along s n xs vs)
  all_rise n [] vs h = tt
  all_rise n (x ∷ xs) [] h = tt
  all_rise n (x ∷ xs) (v ∷ vs) h =
      rises_append Before (faults_told s n x v) (faults_along s (n + 1) xs vs) (rise n x v (All-head (WellFormed upload) x xs h) (faults_of s n x) refl)
      (all_rise (n + 1) xs vs (All-tail (WellFormed upload) x xs h))
      (λ y z i j. inl (omega (arith, numbered n x v (faults_of s n x) refl y i, later (n + 1) xs vs z j)))

pub rising : {c d : Contents} (e : Event) → Received c e d → Rises e.reply.faults
rising e (goes_back a r) = subst (λ y. Rises y.faults) (sym r) tt
rising e (taken {t = t} {vs = vs} a run r) =
    let u = e.call.upload in
    let w = (limits (told_of e.call) t a.law).lawful in
    let stand = in_each (All (WellFormed u)) u (test_from_lawful u w) (records_stand u) in
    subst (λ y. Rises y.faults) (sym r) (taken_rises Before e.call.report_rows _ (all_rise (setting_on t.day e.call) u 1 (records_in u) vs stand))
