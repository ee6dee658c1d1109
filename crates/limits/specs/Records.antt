-- How many records an upload holds. Assumes nothing.
--     is_record i        whether a record begins with the item
--     records_in is      how many records begin among the items
use Rattle.std.specs.Prelude.{ℕ, Bool, true, false, List, count_by}
use Rattle.grammar.specs.Items.{Item, structure}
use Rattle.grammar.specs.declared.states.Element.TheVariants.{Rec}
use Rattle.grammar.specs.declared.states.Tag.TheVariants.{Open}

abbrev pub is_record : Item → Bool
is_record (structure (Open Rec) at) = true
is_record _ = false

abbrev pub records_in : List Item → ℕ
records_in is = count_by is_record is
