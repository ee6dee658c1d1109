-- When a rule is broken at a field. Rules 11 and 12 are about each writing of a field, and stand in the crate `verdicts`; rules 30 to 35 are about the register, and no field breaks one. Assumes nothing.
--     broken r v f     whether the rule r is broken at the field f
use Rattle.std.specs.Prelude.{Bool, false, ◌&&◌, ◌||◌, not}
use Rattle.faults.specs.declared.rules.Rule.{Rule}
use Rattle.faults.specs.declared.rules.Rule.TheVariants.{Misplaced, Repeated, Unknown, Missing, Barred, Form, Dates, Newborn, LateCard, VisitNumber, Signs, OrderMoment, OrderNumber, OrderKind, Signature, Code, Origin, Prevention, Refills, Unmatched, Late, Dispensed, Prescription, Uncancellable, NoRoom}
use Rattle.fields.specs.declared.field.Field.{Field}
use Rattle.rules.specs.Views.{View, is_visit, withdraws, regards}
use Rattle.rules.specs.Needs.{is_unknown, is_missing, is_barred, is_misformed}
use Rattle.rules.specs.Visits.{dates_fit, newborn_fits, card_fits, number_fits, signs_fit, source_is_told, prevention_fits, refills_fit}
use Rattle.rules.specs.Orders.{moment_agrees, number_is_new, kind_fits, is_signed}
use Rattle.rules.specs.Codes.{is_listed}

abbrev pub broken : Rule → View → Field → Bool
broken Misplaced v f = false
broken Repeated v f = false
broken Unknown v f = is_unknown v f
broken Missing v f = is_missing v f
broken Barred v f = is_barred v f
broken Form v f = is_misformed v f
broken Dates v f = not (dates_fit v f) && is_visit v
broken Newborn v f = not (newborn_fits v f) && is_visit v
broken LateCard v f = not (card_fits v f) && is_visit v
broken VisitNumber v f = not (number_fits v f) && is_visit v
broken Signs v f = not (signs_fit v f) && ((is_visit v || withdraws v) && regards v f)
broken OrderMoment v f = not (moment_agrees v f) && is_visit v
broken OrderNumber v f = not (number_is_new v f) && is_visit v
broken OrderKind v f = not (kind_fits v f) && is_visit v
broken Signature v f = not (is_signed v f) && is_visit v
broken Code v f = not (is_listed v f) && is_visit v
broken Origin v f = not (source_is_told v f) && is_visit v
broken Prevention v f = not (prevention_fits v f) && is_visit v
broken Refills v f = not (refills_fit v f) && is_visit v
broken Unmatched v f = false
broken Late v f = false
broken Dispensed v f = false
broken Prescription v f = false
broken Uncancellable v f = false
broken NoRoom v f = false
