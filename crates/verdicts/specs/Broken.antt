-- How a record breaks a rule, in words. Assumes nothing.
--     IsSegment x k p before seen
--                             p is the segment of the number k in the record x; before are the orders before it, and seen are the fields of an order that are seen there
--     IsWritten w             the field has a value
--     BelongsTo p f           the field stands in the segment p
--     WrittenIn ws i          a field of the ID i is written among ws
--     BreaksAt v n k p y      y is a fault at the segment p, of the number k in the record of the number n, where v is seen:
--         misplaced           a field is written that counts and does not stand in the segment, which is rule 11
--         repeated            a field is written that counts and was written in the segment before, which is rule 12
--         absent              a field of the segment is not written, and breaks another rule by that
--         written             a field of the segment is written, for the first time there, and breaks another rule by its value
--     Breaks s n x y          y is a fault of the record x, which has the number n, at one of its segments
use Rattle.std.specs.Prelude.{◌≡◌, ◌≢◌, ℕ, ◌+◌, true, List, [], ◌∷◌, ◌++◌, length}
use Rattle.grammar.specs.Items.{value_place}
use Rattle.grammar.specs.declared.states.FieldId.{FieldId}
use Rattle.records.specs.Records.{Written, Part, Record, order_parts}
use Rattle.fields.specs.Fields.{id_of, segment_of}
use Rattle.fields.specs.declared.field.Field.{Field}
use Rattle.faults.specs.Along.{In}
use Rattle.faults.specs.declared.report.Fault.{Fault}
use Rattle.faults.specs.declared.rules.Rule.{Rule}
use Rattle.faults.specs.declared.rules.Rule.TheVariants.{Misplaced, Repeated}
use Rattle.rules.specs.Views.{View}
use Rattle.rules.specs.Rules.{broken}
use Rattle.verdicts.specs.Sights.{Setting, view}
use Rattle.verdicts.specs.Faults.{counts, fault}

pub data IsSegment (x : Record) : ℕ → Part → List Part → List Written → Type 0 where
  header : IsSegment x 0 x.header [] []
  visit : IsSegment x 1 x.visit [] []
  order : (before : List Part) (o : Part) (after : List Part) → order_parts x ≡ before ++ (o ∷ after) → IsSegment x (2 + length before) o before o.fields

abbrev pub IsWritten : Written → Type 0
IsWritten w = w.value ≢ []

abbrev pub BelongsTo : Part → Field → Type 0
BelongsTo p f = segment_of f ≡ p.segment

pub record WrittenIn (ws : List Written) (i : FieldId) : Type 0 where
  pub field : Written
  pub stands : In field ws
  pub written : IsWritten field
  pub named : field.id ≡ i

pub data BreaksAt (v : View) (n k : ℕ) (p : Part) : Fault → Type 0 where
  misplaced : (front : List Written) (w : Written) (back : List Written) → p.fields ≡ front ++ (w ∷ back) → IsWritten w → counts v w.id ≡ true
      → ((f : Field) → id_of f ≡ w.id → ¬ BelongsTo p f) → BreaksAt v n k p (fault n k Misplaced w.id w.place)
  repeated : (front : List Written) (w : Written) (back : List Written) → p.fields ≡ front ++ (w ∷ back) → IsWritten w → counts v w.id ≡ true
      → WrittenIn front w.id → BreaksAt v n k p (fault n k Repeated w.id w.place)
  absent : (r : Rule) (f : Field) → BelongsTo p f → v.value f ≡ [] → broken r v f ≡ true → BreaksAt v n k p (fault n k r (id_of f) p.tag)
  written : (r : Rule) (f : Field) (front : List Written) (w : Written) (back : List Written) → p.fields ≡ front ++ (w ∷ back) → IsWritten w → w.id ≡ id_of f
      → BelongsTo p f → ¬ WrittenIn front w.id → broken r v f ≡ true → BreaksAt v n k p (fault n k r w.id (value_place w.place))

pub record Breaks (s : Setting) (n : ℕ) (x : Record) (y : Fault) : Type 0 where
  pub segment : ℕ
  pub part : Part
  pub before : List Part
  pub seen : List Written
  pub stands : IsSegment x segment part before seen
  pub breaks : BreaksAt (view s x before seen) n segment part y
