-- What field H01 asks for. Assumes nothing.
--     letter_of a    the byte that names an action
--     lettered b     the action that a byte names, if it names one
--     action_in bs   the action that the bytes name, if they name one
use Rattle.std.specs.Prelude.{ℕ, if◌then◌else◌, ◌==◌, List, codes, length, slice_index, Option, Some, None}
use Rattle.fields.specs.declared.action.Action.{Action}
use Rattle.fields.specs.declared.action.Action.TheVariants.{Normal, Exceptional, Cancel, Delete}

abbrev pub letter_of : Action → List ℕ
letter_of Normal = codes "A"
letter_of Exceptional = codes "B"
letter_of Cancel = codes "C"
letter_of Delete = codes "D"

abbrev pub lettered : ℕ → Option Action
lettered b =
    if b == 65 then Some Normal else (if b == 66 then Some Exceptional else (if b == 67 then Some Cancel else (if b == 68 then Some Delete else None)))

abbrev pub action_in : List ℕ → Option Action
action_in bs = if length bs == 1 then lettered (slice_index bs 0) else None
