-- The rules for records. Assumes nothing.
--     number_of r      the number of the rule r
--     rules_of t       the rules of the tier t
--     tiers            the tiers in which a record is tried by itself, in their order. Kept shut: what holds of any list of tiers holds of it.
--                      The rules 30 to 35 are of none: they are tried against what stands in a register
use Rattle.std.specs.Prelude.{ℕ, List, [], ◌∷◌}
use Rattle.faults.specs.declared.rules.Rule.{Rule}
use Rattle.faults.specs.declared.rules.Rule.TheVariants.{Misplaced, Repeated, Unknown, Missing, Barred, Form, Dates, Newborn, LateCard, VisitNumber, Signs, OrderMoment, OrderNumber, OrderKind, Signature, Code, Origin, Prevention, Refills, Unmatched, Late, Dispensed, Prescription, Uncancellable, NoRoom}
use Rattle.faults.specs.declared.rules.Tier.{Tier}
use Rattle.faults.specs.declared.rules.Tier.TheVariants.{First, Second, Third}

abbrev pub number_of : Rule → ℕ
number_of Misplaced = 11
number_of Repeated = 12
number_of Unknown = 13
number_of Missing = 14
number_of Barred = 15
number_of Form = 16
number_of Dates = 17
number_of Newborn = 18
number_of LateCard = 19
number_of VisitNumber = 20
number_of Signs = 21
number_of OrderMoment = 22
number_of OrderNumber = 23
number_of OrderKind = 24
number_of Signature = 25
number_of Code = 26
number_of Origin = 27
number_of Prevention = 28
number_of Refills = 29
number_of Unmatched = 30
number_of Late = 31
number_of Dispensed = 32
number_of Prescription = 33
number_of Uncancellable = 34
number_of NoRoom = 35

abbrev pub rules_of : Tier → List Rule
rules_of First = Misplaced ∷ Repeated ∷ Unknown ∷ []
rules_of Second = Missing ∷ Barred ∷ Form ∷ []
rules_of Third =
    Dates ∷ Newborn ∷ LateCard ∷ VisitNumber ∷ Signs ∷ OrderMoment ∷ OrderNumber ∷ OrderKind ∷ Signature ∷ Code ∷ Origin ∷ Prevention ∷ Refills ∷ []

unfoldable pub tiers : List Tier
tiers = First ∷ Second ∷ Third ∷ []
