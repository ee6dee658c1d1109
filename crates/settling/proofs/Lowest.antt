-- A verdict is one rule. Assumes nothing.
use Rattle.std.proofs.Common.{◌≡◌, ◌↔◌, ℕ, ◌-◌, ◌≤◌, ◌++◌, get_or, [], ◌∷◌, Option, Some, None, refl, sym, ap, ◌∙◌, arith}
use Rattle.faults.specs.Rules.{number_of, rules_of}
use Rattle.faults.specs.declared.rules.Rule.{Rule}
use Rattle.faults.specs.declared.rules.Tier.TheVariants.{First, Second, Third}
use Rattle.faults.specs.declared.rules.Rule.TheVariants.{Misplaced, Repeated, Unknown, Missing, Barred, Form, Dates, Newborn, LateCard, VisitNumber, Signs, OrderMoment, OrderNumber, OrderKind, Signature, Code, Origin, Prevention, Refills, Unmatched, Late, Dispensed, Prescription, Uncancellable, NoRoom}
use Rattle.settling.specs.Verdicts.{IsLowest}

-- the rules are told apart by their numbers
rule_at : ℕ → Rule
rule_at n = get_or (rules_of First ++ (rules_of Second ++ (rules_of Third ++ (Unmatched ∷ Late ∷ Dispensed ∷ Prescription ∷ Uncancellable ∷ NoRoom ∷ [])))) (n - 11) NoRoom

at_its_number : (r : Rule) → rule_at (number_of r) ≡ r
unfolding rule_at
at_its_number Misplaced = refl
at_its_number Repeated = refl
at_its_number Unknown = refl
at_its_number Missing = refl
at_its_number Barred = refl
at_its_number Form = refl
at_its_number Dates = refl
at_its_number Newborn = refl
at_its_number LateCard = refl
at_its_number VisitNumber = refl
at_its_number Signs = refl
at_its_number OrderMoment = refl
at_its_number OrderNumber = refl
at_its_number OrderKind = refl
at_its_number Signature = refl
at_its_number Code = refl
at_its_number Origin = refl
at_its_number Prevention = refl
at_its_number Refills = refl
at_its_number Unmatched = refl
at_its_number Late = refl
at_its_number Dispensed = refl
at_its_number Prescription = refl
at_its_number Uncancellable = refl
at_its_number NoRoom = refl

pub same_number : (r s : Rule) → number_of r ≤ number_of s → number_of s ≤ number_of r → r ≡ s
same_number r s h k = let e : number_of r ≡ number_of s = omega arith in sym (at_its_number r) ∙ ap rule_at e ∙ at_its_number s

-- where the same rules hold, the lowest is the same
pub same_verdict : (P Q : Rule → Type 0) (v w : Option Rule) → IsLowest P v → IsLowest Q w → ((r : Rule) → P r ↔ Q r) → v ≡ w
same_verdict P Q None None h k e = refl
same_verdict P Q None (Some s) h k e = absurd (h s ((e s).1 k.0))
same_verdict P Q (Some r) None h k e = absurd (k r ((e r).0 h.0))
same_verdict P Q (Some r) (Some s) h k e = ap Some (same_number r s (h.1 s ((e s).1 k.0)) (k.1 r ((e r).0 h.0)))

pub one_verdict : (P : Rule → Type 0) (v w : Option Rule) → IsLowest P v → IsLowest P w → v ≡ w
one_verdict P v w h k = same_verdict P P v w h k (λ r. (λ p. p, λ p. p))
