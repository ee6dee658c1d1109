-- The limits of an upload and the sender that it names, told of the items that it holds. Assumes nothing.
--     most_records, most_orders      how many records an upload may have, and how many orders a record
--     place_of i                     the place of an item's tag, for a field its opening tag
--     is_order i                     whether an order begins with the item
--     orders_in is                   how many orders begin among the items since the last of them that begins a record
--     IsBeyond front x               x begins a record and the items front before it hold most_records already, or an order and they hold most_orders since their last record
--     NoneBeyond is                  no item of is is beyond its limit
--     FirstBeyond is k               the first such item stands at the place k
--     IsForeign sender x             x is a field M05 whose value is written, and not the sender
--     NoneForeign sender is          no item of is is so
--     FirstForeign sender is k       the first such item has its value at the place k
use Rattle.std.specs.Prelude.{◌≡◌, ◌≢◌, ℕ, ◌≤◌, Bool, true, false, ◌⊎◌, List, [], IsTrue, count_by, codes}
use Rattle.std.specs.List.{after_last}
use Rattle.grammar.specs.Grammar.{letters}
use Rattle.grammar.specs.Items.{Item, structure, field, value_place}
use Rattle.grammar.specs.declared.states.Element.TheVariants.{Mb2}
use Rattle.grammar.specs.declared.states.Tag.TheVariants.{Open}
use Rattle.limits.specs.Records.{is_record, records_in}
use Rattle.limits.specs.Firsts.{Nowhere, FirstAt}

abbrev pub most_records : ℕ
most_records = 4096

abbrev pub most_orders : ℕ
most_orders = 999

abbrev pub place_of : Item → ℕ
place_of (structure t at) = at
place_of (field i at v) = at

abbrev pub is_order : Item → Bool
is_order (structure (Open Mb2) at) = true
is_order _ = false

abbrev pub orders_in : List Item → ℕ
orders_in is = count_by is_order (after_last is_record is)

abbrev pub IsBeyond : List Item → Item → Type 0
IsBeyond front x =
    (IsTrue (is_record x) × (most_records ≤ records_in front)) ⊎ (IsTrue (is_order x) × (most_orders ≤ orders_in front))

abbrev pub NoneBeyond : List Item → Type 0
NoneBeyond is = Nowhere IsBeyond is

abbrev pub FirstBeyond : List Item → ℕ → Type 0
FirstBeyond is k = FirstAt IsBeyond place_of is k

abbrev pub IsForeign : List ℕ → Item → Type 0
IsForeign sender (field i at v) = (letters i ≡ codes "M05") × (v ≢ []) × (v ≢ sender)
IsForeign sender (structure t at) = ⊥

abbrev pub NoneForeign : List ℕ → List Item → Type 0
NoneForeign sender is = Nowhere (λ front x. IsForeign sender x) is

abbrev pub FirstForeign : List ℕ → List Item → ℕ → Type 0
FirstForeign sender is k = FirstAt (λ front x. IsForeign sender x) (λ x. value_place (place_of x)) is k
