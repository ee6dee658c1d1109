-- Rules 22 to 25: what an order says. Each is told at one field, and holds at every other. Assumes nothing.
--     moment_agrees v f     rule 22, at D01: it is the moment M11 of the visit
--     number_is_new v f     rule 23, at D03: no earlier order has the number
--     is_medicine v         the order is of kind 1 or M
--     tells_use v           how and in which way a medicine is taken is told, or excused
--     is_prescribed v       a medicine has what medicines have
--     kind_fits v f         rule 24, at D02: a kind of order; a medicine has what medicines have
--     needs_signature v     an order of kind 1, 2 or 3 in a normal visit
--     is_signed v f         rule 25, at D11: of a normal visit, an order of kind 1, 2 or 3 has it
use Rattle.std.specs.Prelude.{Bool, true, not, ◌&&◌, ◌||◌, codes}
use Rattle.std.specs.Option.{option_map_or}
use Rattle.std.specs.Str.{bytes_eq}
use Rattle.fields.specs.declared.field.Field.{Field}
use Rattle.fields.specs.declared.field.Field.TheVariants.{M11, D01, D02, D03, D04, D08, D09, D10, D11, D14}
use Rattle.values.specs.Numbers.{order_number}
use Rattle.values.specs.Orders.{is_order_kind, is_prescription_kind, is_course}
use Rattle.rules.specs.Views.{View, has, says, is_normal}
use Rattle.rules.specs.Needs.{is_excused}

abbrev pub moment_agrees : View → Field → Bool
moment_agrees v D01 = not (has v D01) || bytes_eq (v.value D01) (v.value M11)
moment_agrees v _ = true

abbrev pub number_is_new : View → Field → Bool
number_is_new v D03 = option_map_or (λ n. not (v.stood n)) (order_number (v.value D03)) true
number_is_new v _ = true

abbrev pub is_medicine : View → Bool
is_medicine v = says v D02 (codes "1") || says v D02 (codes "M")

-- how and in which way a medicine is taken, where its code does not excuse that
abbrev pub tells_use : View → Bool
tells_use v = (has v D08 || is_excused v D08) && (has v D14 || is_excused v D14)

-- a medicine's kind A to F, 1 to 92 days, its amount, and its use
abbrev pub is_prescribed : View → Bool
is_prescribed v =
    (is_prescription_kind (v.value D04) && is_course (v.value D09)) && (has v D10 && tells_use v)

abbrev pub kind_fits : View → Field → Bool
kind_fits v D02 = not (has v D02) || (is_order_kind (v.value D02) && (not (is_medicine v) || is_prescribed v))
kind_fits v _ = true

abbrev pub needs_signature : View → Bool
needs_signature v = is_normal v && (says v D02 (codes "1") || (says v D02 (codes "2") || says v D02 (codes "3")))

abbrev pub is_signed : View → Field → Bool
is_signed v D11 = not (needs_signature v) || has v D11
is_signed v _ = true
