-- The records of an upload, read off its items. Assumes nothing.
--     Written            a field as it is written: its ID, the place of its opening tag, its value (an empty one counts as unwritten)
--     Part               a segment of a record: which it is, the place of its tag, its fields in the order of the upload
--     Record             the header MSH, the visit MB1, the orders MB2 in their order, and the place of </MB>
--     begins g x         whether the segment g begins with the item x
--     tag_place x        where the tag of an item stands, for a field its opening tag
--     fields_ahead is    the fields up to the first tag of the structure
--     part_ahead g is    the first segment g that begins among the items; where none does, one without fields at the place 0
--     behind g is        the items behind the tag of that segment
--     orders_ahead is    the orders that begin before the next </MB>
--     close_ahead is     the place of the next </MB>, or 0
--     record_ahead is    the record whose items come next
--     records_of is      the records that begin among the items
--     Follows s is       the items are those of some bytes that end an upload from the state s on
--     unordered place    the part that stands for the orders of a record without one: no fields, and </MB> at the place is its tag
--     or_unordered place ps
--                        the parts ps, or if there is none the one that stands for them
--     order_parts r      the orders of the record, or the one part that stands for them
--     Lies upload w      the field has a lawful ID, and its value stands in the upload five bytes behind its place
use Rattle.std.specs.Prelude.{◌≡◌, ℕ, ◌+◌, ◌≤◌, Bool, true, false, if◌then◌else◌, List, [], ◌∷◌, length, take, drop}
use Rattle.grammar.specs.Grammar.{Id, Rest}
use Rattle.grammar.specs.Items.{Item, structure, field, items, value_place}
use Rattle.grammar.specs.declared.states.Segment.{Segment}
use Rattle.grammar.specs.declared.states.Segment.TheVariants.{Header, Visit, Order}
use Rattle.grammar.specs.declared.states.State.{State}
use Rattle.grammar.specs.declared.states.Element.TheVariants.{Rec, Msh, Mb, Mb1, Mb2}
use Rattle.grammar.specs.declared.states.Tag.TheVariants.{Open, Close}
use Rattle.grammar.specs.declared.states.FieldId.{FieldId}

pub record Written : Type 0 where
  pub id : FieldId
  pub place : ℕ
  pub value : List ℕ

pub record Part : Type 0 where
  pub segment : Segment
  pub tag : ℕ
  pub fields : List Written

pub record Record : Type 0 where
  pub header : Part
  pub visit : Part
  pub orders : List Part
  pub close : ℕ

abbrev pub begins : Segment → Item → Bool
begins Header (structure (Open Msh) at) = true
begins Visit (structure (Open Mb1) at) = true
begins Order (structure (Open Mb2) at) = true
begins _ _ = false

abbrev pub fields_ahead : List Item → List Written
fields_ahead (field i at v ∷ is) = record { id = i; place = at; value = v } ∷ fields_ahead is
fields_ahead _ = []

abbrev pub tag_place : Item → ℕ
tag_place (structure t at) = at
tag_place (field i at v) = at

abbrev pub part_ahead : Segment → List Item → Part
part_ahead g [] = record { segment = g; tag = 0; fields = [] }
part_ahead g (x ∷ is) = if begins g x then record { segment = g; tag = tag_place x; fields = fields_ahead is } else part_ahead g is

abbrev pub behind : Segment → List Item → List Item
behind g [] = []
behind g (x ∷ is) = if begins g x then is else behind g is

abbrev pub orders_ahead : List Item → List Part
orders_ahead (structure (Open Mb2) at ∷ is) = record { segment = Order; tag = at; fields = fields_ahead is } ∷ orders_ahead is
orders_ahead (structure (Close Mb) at ∷ is) = []
orders_ahead (x ∷ is) = orders_ahead is
orders_ahead [] = []

abbrev pub close_ahead : List Item → ℕ
close_ahead (structure (Close Mb) at ∷ is) = at
close_ahead (x ∷ is) = close_ahead is
close_ahead [] = 0

abbrev pub record_ahead : List Item → Record
record_ahead is = record { header = part_ahead Header is; visit = part_ahead Visit is; orders = orders_ahead is; close = close_ahead is }

abbrev pub records_of : List Item → List Record
records_of (structure (Open Rec) at ∷ is) = record_ahead is ∷ records_of is
records_of (x ∷ is) = records_of is
records_of [] = []

pub record Follows (s : State) (is : List Item) : Type 0 where
  pub at : ℕ
  pub bytes : List ℕ
  pub path : Rest s bytes
  pub read : is ≡ items at path

abbrev pub unordered : ℕ → Part
unordered place = record { segment = Order; tag = place; fields = [] }

abbrev pub or_unordered : ℕ → List Part → List Part
or_unordered place [] = unordered place ∷ []
or_unordered place (p ∷ ps) = p ∷ ps

abbrev pub order_parts : Record → List Part
order_parts r = or_unordered r.close r.orders

pub record Lies (upload : List ℕ) (w : Written) : Type 0 where
  pub id : Id w.id
  pub within : value_place w.place + length w.value ≤ length upload
  pub there : take (length w.value) (drop (value_place w.place) upload) ≡ w.value
