-- Rules 17 to 21 and 27 to 29: what the fields of a visit say together. Each is told at one field, and holds at every other. Assumes nothing.
--     dates_fit v f           rule 17, at M11: the birth day M04 is not after the visit, nor the visit after the receipt day
--     is_newborn v            M08, M09 and M10 fit a newborn of the patient
--     newborn_fits v f        rule 18, at M08: of M08, M09 and M10 none is written, or all are, and they fit a newborn of the patient
--     card_fits v f           rule 19, at M12: it is 1, without M52, or 2, with M49 and M52
--     number_fits v f         rule 20, at M13: a normal visit has the visit number that its category may have
--     signs_fit v f           rule 21: M15, M16 and M52 are twenty characters of A to Z and 0 to 9, M17 ten
--     source_is_told v f      rule 27, at M16: a dispensing, AE or AF, has M16 and M17
--     prevention_fits v f     rule 28, at M07: AC stands in a normal visit only
--     refills_fit v f         rule 29, at M33: 0, or strictly rising digits from 1 to the times M26
use Rattle.std.specs.Prelude.{Bool, true, not, ◌&&◌, ◌||◌, codes, Some}
use Rattle.std.specs.Option.{option_map_or}
use Rattle.fields.specs.declared.field.Field.{Field}
use Rattle.fields.specs.declared.field.Field.TheVariants.{M04, M07, M08, M09, M10, M11, M12, M13, M16, M17, M26, M33, M49, M52}
use Rattle.values.specs.Numbers.{number, rank}
use Rattle.values.specs.Visits.{precedes, is_child_of, is_number_in, signs_of, has_signs, is_dispensing, is_prevention, are_refills}
use Rattle.rules.specs.Views.{View, has, says, category, day, visit_day, is_normal}

abbrev pub dates_fit : View → Field → Bool
dates_fit v M11 = not (precedes (visit_day v) (day v M04)) && not (precedes (Some v.today) (visit_day v))
dates_fit v _ = true

abbrev pub is_newborn : View → Bool
is_newborn v =
    is_child_of (number (v.value M09)) (rank (v.value M10))
    && (precedes (day v M04) (day v M08) && not (precedes (visit_day v) (day v M08)))

abbrev pub newborn_fits : View → Field → Bool
newborn_fits v M08 =
    not (has v M08 || (has v M09 || has v M10)) || ((has v M08 && (has v M09 && has v M10)) && is_newborn v)
newborn_fits v _ = true

abbrev pub card_fits : View → Field → Bool
card_fits v M12 =
    not (has v M12)
    || ((says v M12 (codes "1") && not (has v M52)) || (says v M12 (codes "2") && (has v M49 && has v M52)))
card_fits v _ = true

abbrev pub number_fits : View → Field → Bool
number_fits v M13 = not (is_normal v) || is_number_in (category v) (v.value M13)
number_fits v _ = true

abbrev pub signs_fit : View → Field → Bool
signs_fit v f = option_map_or (λ n. not (has v f) || has_signs n (v.value f)) (signs_of f) true

abbrev pub source_is_told : View → Field → Bool
source_is_told v M16 = not (is_dispensing (category v)) || (has v M16 && has v M17)
source_is_told v _ = true

abbrev pub prevention_fits : View → Field → Bool
prevention_fits v M07 = not (is_prevention (category v)) || is_normal v
prevention_fits v _ = true

abbrev pub refills_fit : View → Field → Bool
refills_fit v M33 = not (has v M33) || are_refills (number (v.value M26)) (v.value M33)
refills_fit v _ = true
