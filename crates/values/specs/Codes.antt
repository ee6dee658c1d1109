-- Which list a code must stand in. Assumes nothing.
--     list_of a f                 the number of the field's list, in a record with the action a. M13 has one in an exceptional visit only
--     is_bed_without_number bs    a bed that no list needs to have: RRRRR a waiting room, DW a day ward, ER the emergency room
--     is_excused_bed f bs         the field is M50 and names such a bed
use Rattle.std.specs.Prelude.{ℕ, Bool, true, false, if◌then◌else◌, ◌||◌, List, codes, Option, Some, None}
use Rattle.std.specs.Str.{bytes_eq}
use Rattle.fields.specs.declared.field.Field.{Field}
use Rattle.fields.specs.declared.field.Field.TheVariants.{M05, M06, M13, M35, M36, M37, M38, M39, M40, M41, M42, M43, M50, D06, D12}
use Rattle.fields.specs.declared.action.Action.{Action}
use Rattle.fields.specs.declared.action.Action.TheVariants.{Exceptional}

abbrev pub is_exceptional_action : Option Action → Bool
is_exceptional_action (Some Exceptional) = true
is_exceptional_action _ = false

abbrev pub list_of : Option Action → Field → Option ℕ
list_of a M05 = Some 1
list_of a D12 = Some 1
list_of a M06 = Some 2
list_of a D06 = Some 3
list_of a M35 = Some 4
list_of a M36 = Some 4
list_of a M37 = Some 4
list_of a M38 = Some 4
list_of a M39 = Some 4
list_of a M40 = Some 4
list_of a M41 = Some 5
list_of a M42 = Some 5
list_of a M43 = Some 5
list_of a M50 = Some 6
list_of a M13 = if is_exceptional_action a then Some 7 else None
list_of a _ = None

abbrev pub is_bed_without_number : List ℕ → Bool
is_bed_without_number bs = bytes_eq bs (codes "RRRRR") || (bytes_eq bs (codes "DW") || bytes_eq bs (codes "ER"))

abbrev pub is_excused_bed : Field → List ℕ → Bool
is_excused_bed M50 bs = is_bed_without_number bs
is_excused_bed _ bs = false
