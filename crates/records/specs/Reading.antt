-- What the readers of an upload have still to give, and what a call of `next` does. Assumes nothing.
--     written_of o                  a field without its loan
--     fields_left f, orders_left o, records_left r
--                                   what they have still to give
--     part_of p, record_of r        what is read from a part and from a record, as in Parts
--     ..._upload                    the bytes that they read
--     ReadsFrom upload r            both parts of the record are read from the upload
--     GivesField old r new          the call gives the first of the fields and leaves the others, in the same upload; the field lies in that
--     GivesOrder old r new          so it is with an order, which is read from the same upload
--     GivesRecord old r new         and with a record, which is well formed
use Rattle.std.specs.Prelude.{◌≡◌, ℕ, if◌then◌else◌, List, Option, IfSome}
use Rattle.std.specs.Iterator.{YieldsFirstBy}
use Rattle.cursor.specs.Left.{left}
use Rattle.records.specs.Records.{Written, Part, Record, fields_ahead, orders_ahead, close_ahead, records_of, or_unordered, Lies}
use Rattle.records.specs.Orderly.{WellFormed}
pub use Rattle.records.specs.Parts.{part_of, part_upload}
use Rattle.records.specs.Parts.{read_of}
use Rattle.records.specs.declared.fields.Occurrence.{Occurrence}
use Rattle.records.specs.declared.fields.Fields.{Fields}
use Rattle.records.specs.declared.part.OpenPart.{OpenPart}
use Rattle.records.specs.declared.orders.Orders.{Orders}
use Rattle.records.specs.declared.passing.OpenRecord.{OpenRecord}
use Rattle.records.specs.declared.passing.Records.{Records}

abbrev pub written_of : Occurrence → Written
written_of o = record { id = o.id; place = o.place; value = o.value.now }

abbrev pub fields_left : Fields → List Written
fields_left f = fields_ahead (left f.cursor)

abbrev pub fields_upload : Fields → List ℕ
fields_upload f = f.cursor.upload.now

pub record GivesField (old : Fields) (r : Option Occurrence) (new : Fields) : Type 0 where
  pub gives : YieldsFirstBy written_of fields_left old r new
  pub lies : IfSome r (λ x. Lies (fields_upload old) (written_of x))
  pub upload : fields_upload new ≡ fields_upload old

abbrev pub orders_left : Orders → List Part
orders_left o =
    if o.given then orders_ahead (left o.cursor) else or_unordered (close_ahead (left o.cursor)) (orders_ahead (left o.cursor))

abbrev pub orders_upload : Orders → List ℕ
orders_upload o = o.cursor.upload.now

pub record GivesOrder (old : Orders) (r : Option OpenPart) (new : Orders) : Type 0 where
  pub gives : YieldsFirstBy part_of orders_left old r new
  pub reads : IfSome r (λ p. part_upload p ≡ orders_upload old)
  pub upload : orders_upload new ≡ orders_upload old

abbrev pub record_of : OpenRecord → Record
record_of r = read_of r.header r.visit

pub record ReadsFrom (upload : List ℕ) (r : OpenRecord) : Type 0 where
  pub header : part_upload r.header ≡ upload
  pub visit : part_upload r.visit ≡ upload

abbrev pub records_left : Records → List Record
records_left r = records_of (left r.cursor)

abbrev pub records_upload : Records → List ℕ
records_upload r = r.cursor.upload.now

pub record GivesRecord (old : Records) (r : Option OpenRecord) (new : Records) : Type 0 where
  pub gives : YieldsFirstBy record_of records_left old r new
  pub reads : IfSome r (λ x. ReadsFrom (records_upload old) x)
  pub stands : IfSome r (λ x. WellFormed (records_upload old) (record_of x))
  pub upload : records_upload new ≡ records_upload old
