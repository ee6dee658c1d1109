-- The verdict of a record. Assumes nothing.
use Rattle.std.proofs.Common.{◌≡◌, ℕ, ◌<◌, ◌≤◌, Bool, true, ◌&&◌, nat_lt, List, [], ◌∷◌, inl, inr, Option, Some, None, refl, sym, ap, ◌∙◌, subst, arith}
use Rattle.std.proofs.lemmas.Bool.Decides.{nat_tests}
use Rattle.std.proofs.lemmas.Option.{none-some, same_Some}
use Rattle.calendar.specs.Calendar.{Date}
use Rattle.records.specs.Records.{Record}
use Rattle.faults.specs.Along.{In}
use Rattle.faults.specs.Reports.{verdict_of}
use Rattle.faults.specs.Rules.{number_of, rules_of}
use Rattle.faults.specs.declared.report.Fault.{Fault}
use Rattle.faults.specs.declared.rules.Rule.{Rule}
use Rattle.faults.specs.declared.rules.Rule.TheVariants.{Unmatched, Late, Dispensed, Prescription, Uncancellable, NoRoom}
use Rattle.faults.specs.declared.rules.Tier.{Tier}
use Rattle.faults.specs.declared.rules.Tier.TheVariants.{First, Second, Third}
use Rattle.register.specs.Contents.{Contents}
use Rattle.verdicts.specs.Sights.{Setting}
use Rattle.verdicts.specs.Faults.{faults_of}
use Rattle.verdicts.proofs.Laws.{fault_law}
use Rattle.filings.specs.declared.filing.Filing.{Filing}
use Rattle.settling.specs.Against.{Against}
use Rattle.settling.specs.Verdicts.{IsLowest}
use Rattle.receiving.specs.Contents.{filing_of}
use Rattle.receiving.specs.Judging.{IsBroken}

-- the rules that look at the register have the greatest numbers
abbrev are_low : List Rule → Bool
are_low [] = true
are_low (r ∷ rs) = nat_lt (number_of r) 30 && are_low rs

low : (rs : List Rule) (r : Rule) → are_low rs ≡ true → In r rs → number_of r < 30
low [] r h i = absurd i
low (x ∷ rs) r h (inl e) = let n = ap number_of e in grind (arith, nat_tests)
low (x ∷ rs) r h (inr i) = low rs r (grind (arith, nat_tests)) i

below : (t : Tier) (r : Rule) → In r (rules_of t) → number_of r < 30
below First r i = low (rules_of First) r refl i
below Second r i = low (rules_of Second) r refl i
below Third r i = low (rules_of Third) r refl i

pub from : (c : Contents) (today : Date) (q : Filing) (r : Rule) → Against c today q r → 30 ≤ number_of r
from c today q Unmatched a = omega arith
from c today q Late a = omega arith
from c today q Dispensed a = omega arith
from c today q Prescription a = omega arith
from c today q Uncancellable a = omega arith
from c today q NoRoom a = omega arith
from c today q _ a = absurd a

module _ (s : Setting) (k : List ℕ) (n : ℕ) (x : Record) (c : Contents) where
  -- of a record with faults of its own, the first of them
  pub faulty : (f : Fault) (fs : List Fault) → faults_of s n x ≡ f ∷ fs → IsLowest (IsBroken s k n x c) (Some f.rule)
  faulty f fs e =
      let law = fault_law s n x in
      let listed = law.only f (subst (λ l. In f l) (sym e) (inl refl)) in
      let told : verdict_of (faults_of s n x) ≡ Some f.rule = ap verdict_of e in
      (inl (law.refuses f.rule told), λ r b. lowest r b)
    where
      lowest : (r : Rule) → IsBroken s k n x c r → number_of f.rule ≤ number_of r
      lowest r (inl (y, b, p)) = subst (λ o. number_of f.rule ≤ number_of o) p ((fault_law s n x).lowest f.rule (ap verdict_of e) y b)
      lowest r (inr (q, p, a)) =
          let listed = (fault_law s n x).only f (subst (λ l. In f l) (sym e) (inl refl)) in
          omega (arith, below listed.tier f.rule listed.of, from c s.today q r a)

  -- a record without any is told by the register
  module _ (e : faults_of s n x ≡ []) where
    pub standing : (r : Rule) → IsBroken s k n x c r → (q : Filing) × (filing_of k x ≡ Some q) × Against c s.today q r
    standing r (inl (y, b, p)) = absurd (((fault_law s n x).accepts.0 (ap verdict_of e)) y b)
    standing r (inr h) = h

    pub against : (q : Filing) → filing_of k x ≡ Some q → (r : Rule) → IsBroken s k n x c r → Against c s.today q r
    against q p r b =
        let h = standing r b in
        subst (λ o. Against c s.today o r) (same_Some _ _ (sym h.1 ∙ p)) h.2

    pub settled : (q : Filing) → filing_of k x ≡ Some q → (v : Option Rule) → IsLowest (Against c s.today q) v → IsLowest (IsBroken s k n x c) v
    settled q p None h = λ r b. h r (against q p r b)
    settled q p (Some r) h = (inr (q, p, h.0), λ o b. h.1 o (against q p o b))

    pub unfiled : filing_of k x ≡ None → IsLowest (IsBroken s k n x c) None
    unfiled p r b = let h = standing r b in none-some _ (sym p ∙ h.1)
