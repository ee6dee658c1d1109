-- The order of faults. Assumes nothing.
--     BelowOr m n P   m is below n, or they are the same and P holds
--     id_number i     the three bytes of a field's ID as one number
--     Before x y      the fault x stands before y: by record, then by rule, by place and by field
--     Rises xs        each of the faults xs stands before all that follow it
use Rattle.std.specs.Prelude.{◌≡◌, ℕ, ◌+◌, ◌*◌, ◌<◌, ◌⊎◌, List}
use Rattle.grammar.specs.declared.states.FieldId.{FieldId}
use Rattle.faults.specs.Along.{RisesBy}
use Rattle.faults.specs.Rules.{number_of}
use Rattle.faults.specs.declared.report.Fault.{Fault}

abbrev pub BelowOr : ℕ → ℕ → Type 0 → Type 0
BelowOr m n P = (m < n) ⊎ ((m ≡ n) × P)

abbrev pub id_number : FieldId → ℕ
id_number i = i.letter * 65536 + i.tens * 256 + i.ones

abbrev pub Before : Fault → Fault → Type 0
Before x y =
    BelowOr x.record y.record
    (BelowOr (number_of x.rule) (number_of y.rule)
    (BelowOr x.place y.place (id_number x.field < id_number y.field)))

abbrev pub Rises : List Fault → Type 0
Rises xs = RisesBy Before xs
