-- Rule 26: codes stand in their lists on the day of the visit. Assumes nothing.
--     code_stands_in v f n   the field is not written, or names a bed that needs no list; or the list n has its code on that day
--     is_listed v f     so it is with the list of the field, if it has one
use Rattle.std.specs.Prelude.{ℕ, Bool, true, not, ◌||◌}
use Rattle.std.specs.Option.{option_map_or}
use Rattle.fields.specs.declared.field.Field.{Field}
use Rattle.values.specs.Codes.{list_of, is_excused_bed}
use Rattle.rules.specs.Views.{View, has, action, visit_day}

-- M11 is a moment wherever this is asked: rule 16 is of an earlier tier
abbrev pub code_stands_in : View → Field → ℕ → Bool
code_stands_in v f n = (not (has v f) || is_excused_bed f (v.value f)) || option_map_or (v.listed n (v.value f)) (visit_day v) true

abbrev pub is_listed : View → Field → Bool
is_listed v f = option_map_or (code_stands_in v f) (list_of (action v) f) true
