-- The faults of a record. Assumes nothing.
--     again before w            a field of the same ID is written among those before w
--     is_kept_id i              the ID of a field that counts in a record that withdraws too
--     counts v i                the record looks at fields of that ID at all: one that withdraws another has few that count
--     offends r v g again w     a field w that has a value breaks the rule r in the segment g: it does not stand there, or has no row (11); it stands there once more (12); or its value breaks it, which is the first
--     strikes r v g again w     so it is, and w has a value
--     lacks r v f               the absence of the field breaks the rule
--     place_of r w              where a fault of a field that is written stands: at its tag for 11 and 12, else at its value
--     fault n k r i p           the fault of the rule r in the record n, segment k, at a field with the ID i and the place p
--     lacking, striking         that of an absent field and that of a written one, where there is one
--     part_faults r v n k p     what the segment p, of the number k in the record of the number n, breaks of the rule: first the absent fields in their order, at its tag, then the written ones in theirs
--     head_faults, order_faults what header and visit break of the rule, and an order behind those before it
--     rule_faults s n x r       what the record breaks of the rule
--     tier_faults s n x t       what it breaks of the tier's rules, one after the other
--     first_told xs ys          xs, if it has any, else ys
--     tiers_faults s n x ts     what it breaks of the first of the tiers ts that it breaks
--     faults_of s n x           its faults: those of the first tier that it breaks
use Rattle.std.specs.Prelude.{ℕ, ◌+◌, Bool, false, not, ◌&&◌, ◌||◌, List, [], ◌∷◌, ◌++◌, length, is_none}
use Rattle.std.specs.List.{flat_map, list_any}
use Rattle.std.specs.Option.{option_map_or, option_or}
use Rattle.grammar.specs.Items.{value_place}
use Rattle.grammar.specs.declared.states.FieldId.{FieldId}
use Rattle.grammar.specs.declared.states.Segment.{Segment}
use Rattle.grammar.specs.declared.states.Segment.TheVariants.{Header, Visit}
use Rattle.records.specs.Records.{Written, Part, Record, order_parts}
use Rattle.fields.specs.Fields.{id_of, fields_of, field_at}
use Rattle.fields.specs.declared.field.Field.{Field}
use Rattle.cells.specs.Filled.{is_written}
use Rattle.marks.specs.Ids.{same_id}
use Rattle.faults.specs.Along.{given, along}
use Rattle.faults.specs.Rules.{rules_of, tiers}
use Rattle.faults.specs.declared.report.Fault.{Fault}
use Rattle.faults.specs.declared.rules.Rule.{Rule}
use Rattle.faults.specs.declared.rules.Rule.TheVariants.{Misplaced, Repeated}
use Rattle.faults.specs.declared.rules.Tier.{Tier}
use Rattle.rules.specs.Views.{View, has, withdraws, is_kept}
use Rattle.rules.specs.Rules.{broken}
use Rattle.verdicts.specs.Sights.{Setting, view}

abbrev pub again : List Written → Written → Bool
again before w = list_any (λ e. is_written e && same_id e.id w.id) before

abbrev pub is_kept_id : FieldId → Bool
is_kept_id i = option_map_or is_kept (option_or (field_at Header i) (field_at Visit i)) false

abbrev pub counts : View → FieldId → Bool
counts v i = not (withdraws v) || is_kept_id i

abbrev pub offends : Rule → View → Segment → Bool → Written → Bool
offends Misplaced v g again w = counts v w.id && is_none (field_at g w.id)
offends Repeated v g again w = counts v w.id && again
offends r v g again w = not again && option_map_or (broken r v) (field_at g w.id) false

abbrev pub strikes : Rule → View → Segment → Bool → Written → Bool
strikes r v g again w = is_written w && offends r v g again w

abbrev pub lacks : Rule → View → Field → Bool
lacks r v f = not (has v f) && broken r v f

abbrev pub place_of : Rule → Written → ℕ
place_of Misplaced w = w.place
place_of Repeated w = w.place
place_of _ w = value_place w.place

abbrev pub fault : ℕ → ℕ → Rule → FieldId → ℕ → Fault
fault n k r i p = record { «record» = n; segment = k; field = i; rule = r; place = p }

abbrev pub lacking : Rule → View → ℕ → ℕ → ℕ → Field → List Fault
lacking r v n k tag f = given (lacks r v f) (fault n k r (id_of f) tag)

abbrev pub striking : Rule → View → Segment → ℕ → ℕ → List Written → Written → List Fault
striking r v g n k before w = given (strikes r v g (again before w) w) (fault n k r w.id (place_of r w))

abbrev pub part_faults : Rule → View → ℕ → ℕ → Part → List Fault
part_faults r v n k p = flat_map (lacking r v n k p.tag) (fields_of p.segment) ++ along (striking r v p.segment n k) [] p.fields

abbrev pub order_faults : Setting → ℕ → Record → Rule → List Part → Part → List Fault
order_faults s n x r before o = part_faults r (view s x before o.fields) n (2 + length before) o

abbrev pub head_faults : Setting → ℕ → Record → Rule → List Fault
head_faults s n x r = part_faults r (view s x [] []) n 0 x.header ++ part_faults r (view s x [] []) n 1 x.visit

abbrev pub rule_faults : Setting → ℕ → Record → Rule → List Fault
rule_faults s n x r = head_faults s n x r ++ along (order_faults s n x r) [] (order_parts x)

abbrev pub tier_faults : Setting → ℕ → Record → Tier → List Fault
tier_faults s n x t = flat_map (rule_faults s n x) (rules_of t)

abbrev pub first_told : List Fault → List Fault → List Fault
first_told [] ys = ys
first_told (x ∷ xs) ys = x ∷ xs

abbrev pub tiers_faults : Setting → ℕ → Record → List Tier → List Fault
tiers_faults s n x [] = []
tiers_faults s n x (t ∷ ts) = first_told (tier_faults s n x t) (tiers_faults s n x ts)

abbrev pub faults_of : Setting → ℕ → Record → List Fault
faults_of s n x = tiers_faults s n x tiers
