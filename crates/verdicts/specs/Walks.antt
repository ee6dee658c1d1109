-- What a walk over a record tells: of one rule what the record breaks of it, or what it breaks of any, field by field. Assumes nothing.
--     lacking_any only v n k tag f    what the absence of the field breaks of the rule, or of any that can be broken there
--     offence v g n k again w r       what a field with a value breaks of a rule
--     offences only v g n k again w   what it breaks of the rule, or of any that can be broken there
--     striking_any only v g n k before w    so it is with any written field
--     part_walk only v n k p          what a segment breaks so
--     head_walk, order_walk           header and visit, and an order behind those before it
--     record_walk s n x only          what the record breaks so, segment by segment
use Rattle.std.specs.Prelude.{ℕ, ◌+◌, Bool, List, [], ◌++◌, length, Option, Some, None}
use Rattle.std.specs.List.{flat_map}
use Rattle.grammar.specs.declared.states.Segment.{Segment}
use Rattle.records.specs.Records.{Written, Part, Record, order_parts}
use Rattle.fields.specs.Fields.{fields_of, field_at}
use Rattle.fields.specs.declared.field.Field.{Field}
use Rattle.faults.specs.Along.{given, along}
use Rattle.faults.specs.declared.report.Fault.{Fault}
use Rattle.faults.specs.declared.rules.Rule.{Rule}
use Rattle.rules.specs.Views.{View}
use Rattle.rules.specs.Places.{rules_at}
use Rattle.verdicts.specs.Sights.{Setting, view}
use Rattle.verdicts.specs.Faults.{lacking, offends, fault, place_of, striking}

abbrev pub lacking_any : Option Rule → View → ℕ → ℕ → ℕ → Field → List Fault
lacking_any (Some r) v n k tag f = lacking r v n k tag f
lacking_any None v n k tag f = flat_map (λ r. lacking r v n k tag f) (rules_at (Some f))

abbrev pub offence : View → Segment → ℕ → ℕ → Bool → Written → Rule → List Fault
offence v g n k again w r = given (offends r v g again w) (fault n k r w.id (place_of r w))

abbrev pub offences : Option Rule → View → Segment → ℕ → ℕ → Bool → Written → List Fault
offences (Some r) v g n k again w = offence v g n k again w r
offences None v g n k again w = flat_map (offence v g n k again w) (rules_at (field_at g w.id))

abbrev pub striking_any : Option Rule → View → Segment → ℕ → ℕ → List Written → Written → List Fault
striking_any (Some r) v g n k before w = striking r v g n k before w
striking_any None v g n k before w = flat_map (λ r. striking r v g n k before w) (rules_at (field_at g w.id))

abbrev pub part_walk : Option Rule → View → ℕ → ℕ → Part → List Fault
part_walk only v n k p = flat_map (lacking_any only v n k p.tag) (fields_of p.segment) ++ along (striking_any only v p.segment n k) [] p.fields

abbrev pub order_walk : Setting → ℕ → Record → Option Rule → List Part → Part → List Fault
order_walk s n x only before o = part_walk only (view s x before o.fields) n (2 + length before) o

abbrev pub head_walk : Setting → ℕ → Record → Option Rule → List Fault
head_walk s n x only = part_walk only (view s x [] []) n 0 x.header ++ part_walk only (view s x [] []) n 1 x.visit

abbrev pub record_walk : Setting → ℕ → Record → Option Rule → List Fault
record_walk s n x only = head_walk s n x only ++ along (order_walk s n x only) [] (order_parts x)
