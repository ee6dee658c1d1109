-- Rules 13 to 16: what a record must hold, and in what form. Assumes nothing.
--     is_unknown v f        rule 13: H00 is not 1, H01 no action, M07 of a visit no category
--     need_for a c f        what a record with the action a and the category c must do with the field
--     need v f              what the record's action and category ask of the field
--     is_required n, bars n the need is V, and it is ~
--     may_be_excused f      D08 and D14
--     is_order_field g      the segment g is that of orders
--     is_excused v f        D08 and D14 need not be written with the code in D06
--     is_missing v f        rule 14: a required field is not written. Without any order the required fields of orders are missed together, at D02
--     is_barred v f         rule 15: a barred field is written
--     is_misformed v f      rule 16: a field is written in another form than its own
use Rattle.std.specs.Prelude.{Bool, true, false, if◌then◌else◌, not, ◌&&◌, ◌||◌, codes, Option, Some, is_none}
use Rattle.std.specs.List.{list_any}
use Rattle.fields.specs.Fields.{segment_of, fields_of}
use Rattle.fields.specs.Needs.{need_at}
use Rattle.fields.specs.Forms.{form_of, fits}
use Rattle.fields.specs.Excused.{is_excused_code}
use Rattle.grammar.specs.declared.states.Segment.{Segment}
use Rattle.grammar.specs.declared.states.Segment.TheVariants.{Order}
use Rattle.fields.specs.declared.field.Field.{Field}
use Rattle.fields.specs.declared.field.Field.TheVariants.{H00, H01, M07, D02, D06, D08, D14}
use Rattle.fields.specs.declared.action.Action.{Action}
use Rattle.fields.specs.declared.action.Action.TheVariants.{Normal, Exceptional, Cancel, Delete}
use Rattle.fields.specs.declared.category.Category.{Category}
use Rattle.fields.specs.declared.need.Need.{Need}
use Rattle.fields.specs.declared.need.Need.TheVariants.{Required, Barred, Free}
use Rattle.rules.specs.Views.{View, has, says, action, category, is_visit, is_kept, regards}

abbrev pub is_unknown : View → Field → Bool
is_unknown v H00 = not (says v H00 (codes "1"))
is_unknown v H01 = is_none (action v)
is_unknown v M07 = is_visit v && is_none (category v)
is_unknown v _ = false

-- of a visit, what the table says of its category; of a record that withdraws, every field that counts is required
abbrev pub need_for : Option Action → Option Category → Field → Need
need_for (Some Normal) (Some c) f = need_at f c false
need_for (Some Exceptional) (Some c) f = need_at f c true
need_for (Some Cancel) c f = if is_kept f then Required else Free
need_for (Some Delete) c f = if is_kept f then Required else Free
need_for _ _ f = Free

abbrev pub need : View → Field → Need
need v f = need_for (action v) (category v) f

abbrev pub is_required : Need → Bool
is_required Required = true
is_required _ = false

abbrev pub bars : Need → Bool
bars Barred = true
bars _ = false

abbrev pub may_be_excused : Field → Bool
may_be_excused D08 = true
may_be_excused D14 = true
may_be_excused _ = false

abbrev pub is_excused : View → Field → Bool
is_excused v f = may_be_excused f && is_excused_code (v.value D06)

abbrev pub is_order_field : Segment → Bool
is_order_field Order = true
is_order_field _ = false

abbrev pub is_missing : View → Field → Bool
is_missing v D02 = if v.ordered then not (has v D02) && is_required (need v D02) else list_any (λ f. is_required (need v f)) (fields_of Order)
is_missing v f = (v.ordered || not (is_order_field (segment_of f))) && (not (has v f) && (is_required (need v f) && not (is_excused v f)))

abbrev pub is_barred : View → Field → Bool
is_barred v f = has v f && bars (need v f)

abbrev pub is_misformed : View → Field → Bool
is_misformed v f = has v f && (regards v f && not (fits (form_of f) (v.value f)))
