-- What comes first among some items, an order or </MB>. Assumes nothing.
--     Meets upload is a     so a says: an order, behind which the other orders come, or else the part that stands for them
use Rattle.std.specs.Prelude.{◌≡◌, ℕ, List, [], ◌∷◌}
use Rattle.grammar.specs.Items.{Item}
use Rattle.cursor.specs.Left.{left}
use Rattle.records.specs.Records.{orders_ahead, close_ahead, unordered}
use Rattle.records.specs.Reading.{part_of, part_upload}
use Rattle.records.specs.declared.orders.Ahead.{Ahead}
use Rattle.records.specs.declared.orders.Ahead.TheVariants.{Order, Close}

abbrev pub Meets : List ℕ → List Item → Ahead → Type 0
Meets upload is (Order p) = (part_upload p ≡ upload) × (orders_ahead is ≡ part_of p ∷ orders_ahead (left p.cursor))
Meets upload is (Close p) =
    (part_upload p ≡ upload) × (orders_ahead is ≡ []) × (part_of p ≡ unordered (close_ahead is)) × (orders_ahead (left p.cursor) ≡ [])
