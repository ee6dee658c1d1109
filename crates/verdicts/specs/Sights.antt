-- What is seen of a record at each of its segments. Assumes nothing.
--     Setting             what records are judged by: the receipt day and the code lists
--     setting m day lists the setting on the day, with lists of the meaning m
--     number_of_order o   the number of an order, if it has one
--     has_number n o      whether that is n
--     AtOrders s x before v   v is what is seen behind the orders before
--     view s x before fs  what is seen of the record x at an order with the fields fs, behind the orders before; before the orders, none of either
use Rattle.std.specs.Prelude.{◌≡◌, ℕ, Bool, false, ◌==◌, List, length, Option, nat_lt}
use Rattle.std.specs.List.{list_any}
use Rattle.std.specs.Option.{option_map_or}
use Rattle.calendar.specs.Calendar.{Date}
use Rattle.calendar.specs.Days.{date_of}
use Rattle.calendar.specs.declared.day.Day.{Day}
use Rattle.grammar.specs.declared.states.Segment.TheVariants.{Order}
use Rattle.lists.specs.Lists.{Meaning}
use Rattle.records.specs.Records.{Written, Part, Record}
use Rattle.fields.specs.declared.field.Field.TheVariants.{D03}
use Rattle.cells.specs.Filled.{value_of, value_in, first_in}
use Rattle.values.specs.Numbers.{order_number}
use Rattle.rules.specs.Views.{View}

pub record Setting : Type 0 where
  pub today : Date
  pub listed : Meaning

abbrev pub setting : {L : Type 0} → (L → Meaning) → Day → L → Setting
setting m day lists = record { today = date_of day; listed = m lists }

abbrev pub number_of_order : Part → Option ℕ
number_of_order o = order_number (value_in Order D03 o.fields)

abbrev pub has_number : ℕ → Part → Bool
has_number n o = option_map_or (λ m. m == n) (number_of_order o) false

abbrev pub view : Setting → Record → List Part → List Written → View
view s x before fs = record {
  today = s.today;
  listed = s.listed;
  value = λ f. value_of (first_in x fs f);
  stood = λ n. list_any (has_number n) before;
  ordered = nat_lt 0 (length x.orders);
}

-- so it is seen behind the orders before: whatever order was the last, its number is one of theirs
pub record AtOrders (s : Setting) (x : Record) (before : List Part) (v : View) : Type 0 where
  pub last : List Written
  pub sees : v ≡ view s x before last
