-- What the rules see of a record, at one of its segments. Assumes nothing.
--     View              the receipt day, the code lists, the value of each field (empty, if it is not written), which numbers orders before this one have, and whether there is an order
--     has v f           whether the field is written
--     says v f t        whether its value is the text t
--     action v          what the record does, by H01
--     category v        its category, by M07
--     day v f           the day that the field writes, if it writes one
--     visit_day v       the day of the visit's moment M11
--     is_visit v        whether it is the record of a visit: a normal or an exceptional one
--     is_normal v       whether it is that of a normal visit
--     withdraws v       whether it cancels or deletes
--     is_visit_action, is_normal_action, withdraws_by
--                       the same of an action, if there is one
--     is_kept f         whether the field counts in a record that withdraws too: H00, H01, M03, M04, M05 and M15
--     regards v f       whether the record's rules look at the field at all
use Rattle.std.specs.Prelude.{ℕ, Bool, true, false, not, ◌||◌, ◌==◌, List, length, Option, Some}
use Rattle.std.specs.Option.{option_map}
use Rattle.std.specs.Str.{bytes_eq}
use Rattle.calendar.specs.Calendar.{Date}
use Rattle.calendar.specs.Clock.{stamp_in}
use Rattle.calendar.specs.Written.{date_in}
use Rattle.lists.specs.Lists.{Meaning}
use Rattle.fields.specs.Actions.{action_in}
use Rattle.fields.specs.Categories.{category_in}
use Rattle.fields.specs.declared.field.Field.{Field}
use Rattle.fields.specs.declared.field.Field.TheVariants.{H00, H01, M03, M04, M05, M07, M11, M15}
use Rattle.fields.specs.declared.action.Action.{Action}
use Rattle.fields.specs.declared.action.Action.TheVariants.{Normal, Exceptional, Cancel, Delete}
use Rattle.fields.specs.declared.category.Category.{Category}

pub record View : Type 0 where
  pub today : Date
  pub listed : Meaning
  pub value : Field → List ℕ
  pub stood : ℕ → Bool
  pub ordered : Bool

abbrev pub has : View → Field → Bool
has v f = not (length (v.value f) == 0)

abbrev pub says : View → Field → List ℕ → Bool
says v f text = bytes_eq (v.value f) text

abbrev pub action : View → Option Action
action v = action_in (v.value H01)

abbrev pub category : View → Option Category
category v = category_in (v.value M07)

abbrev pub day : View → Field → Option Date
day v f = date_in (v.value f)

abbrev pub visit_day : View → Option Date
visit_day v = option_map (λ s. s.date) (stamp_in (v.value M11))

abbrev pub is_visit_action : Option Action → Bool
is_visit_action (Some Normal) = true
is_visit_action (Some Exceptional) = true
is_visit_action _ = false

abbrev pub is_visit : View → Bool
is_visit v = is_visit_action (action v)

abbrev pub is_normal_action : Option Action → Bool
is_normal_action (Some Normal) = true
is_normal_action _ = false

abbrev pub is_normal : View → Bool
is_normal v = is_normal_action (action v)

abbrev pub withdraws_by : Option Action → Bool
withdraws_by (Some Cancel) = true
withdraws_by (Some Delete) = true
withdraws_by _ = false

abbrev pub withdraws : View → Bool
withdraws v = withdraws_by (action v)

abbrev pub is_kept : Field → Bool
is_kept H00 = true
is_kept H01 = true
is_kept M03 = true
is_kept M04 = true
is_kept M05 = true
is_kept M15 = true
is_kept _ = false

abbrev pub regards : View → Field → Bool
regards v f = not (withdraws v) || is_kept f
