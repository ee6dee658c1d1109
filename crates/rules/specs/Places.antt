-- Where a rule can be broken at all. Assumes nothing.
--     own_rules f     the rules of the third tier, and rule 13, that are told at the field
--     rules_at o      the rules that can be broken where the field o is named, or where none is
--     Told            no other is broken at a field
--     is_asked f      a rule but 14 can be broken by the absence of the field
--     asks v f        the absence of the field can break a rule: by what is needed of it, or by a rule that speaks of absence
--     Asked           no rule is broken at an absent field that is not asked for
use Rattle.std.specs.Prelude.{◌≡◌, Bool, true, false, ◌||◌, List, [], ◌∷◌, Option, Some, None}
use Rattle.faults.specs.Along.{In}
use Rattle.faults.specs.declared.rules.Rule.{Rule}
use Rattle.faults.specs.declared.rules.Rule.TheVariants.{Misplaced, Repeated, Unknown, Missing, Barred, Form, Dates, Newborn, LateCard, VisitNumber, Signs, OrderMoment, OrderNumber, OrderKind, Signature, Code, Origin, Prevention, Refills}
use Rattle.fields.specs.declared.field.Field.{Field}
use Rattle.fields.specs.declared.field.Field.TheVariants.{H00, H01, M05, M06, M07, M08, M11, M12, M13, M15, M16, M17, M33, M35, M36, M37, M38, M39, M40, M41, M42, M43, M50, M52, D01, D02, D03, D06, D11, D12}
use Rattle.rules.specs.Views.{View, has}
use Rattle.rules.specs.Needs.{need, is_required}
use Rattle.rules.specs.Rules.{broken}

abbrev pub own_rules : Field → List Rule
own_rules H00 = Unknown ∷ []
own_rules H01 = Unknown ∷ []
own_rules M05 = Code ∷ []
own_rules M06 = Code ∷ []
own_rules M07 = Unknown ∷ Prevention ∷ []
own_rules M08 = Newborn ∷ []
own_rules M11 = Dates ∷ []
own_rules M12 = LateCard ∷ []
own_rules M13 = VisitNumber ∷ Code ∷ []
own_rules M15 = Signs ∷ []
own_rules M16 = Signs ∷ Origin ∷ []
own_rules M17 = Signs ∷ []
own_rules M33 = Refills ∷ []
own_rules M35 = Code ∷ []
own_rules M36 = Code ∷ []
own_rules M37 = Code ∷ []
own_rules M38 = Code ∷ []
own_rules M39 = Code ∷ []
own_rules M40 = Code ∷ []
own_rules M41 = Code ∷ []
own_rules M42 = Code ∷ []
own_rules M43 = Code ∷ []
own_rules M50 = Code ∷ []
own_rules M52 = Signs ∷ []
own_rules D01 = OrderMoment ∷ []
own_rules D02 = OrderKind ∷ []
own_rules D03 = OrderNumber ∷ []
own_rules D06 = Code ∷ []
own_rules D11 = Signature ∷ []
own_rules D12 = Code ∷ []
own_rules _ = []

abbrev pub rules_at : Option Field → List Rule
rules_at None = Misplaced ∷ Repeated ∷ []
rules_at (Some f) = Misplaced ∷ Repeated ∷ Missing ∷ Barred ∷ Form ∷ own_rules f

abbrev pub Told : Type 0
Told = (r : Rule) (v : View) (f : Field) → broken r v f ≡ true → In r (rules_at (Some f))

abbrev pub is_asked : Field → Bool
is_asked H00 = true
is_asked H01 = true
is_asked M07 = true
is_asked M08 = true
is_asked M11 = true
is_asked M13 = true
is_asked M16 = true
is_asked D02 = true
is_asked D03 = true
is_asked D11 = true
is_asked _ = false

abbrev pub asks : View → Field → Bool
asks v f = is_asked f || is_required (need v f)

abbrev pub Asked : Type 0
Asked = (r : Rule) (v : View) (f : Field) → has v f ≡ false → asks v f ≡ false → broken r v f ≡ false
