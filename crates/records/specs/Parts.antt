-- What is read from the parts of a record, and what every record that is read keeps, with the lemma that its type asks for. Assumes nothing.
--     part_of p               what is read from a part
--     part_upload p           the bytes that it reads
--     read_of header visit    the record that has these parts: its orders come behind its visit
--     InOrder header visit    both are read from one upload, where the record is well formed, and that is no longer than a machine can tell
--     InOrder-prop            they are so in one way at most
use Rattle.std.specs.Prelude.{◌≡◌, ℕ, ◌<◌, ◌^◌, List, length}
use Rattle.std.proofs.Props.{props}
use Rattle.cursor.specs.Left.{left}
use Rattle.records.specs.Records.{Part, Record, fields_ahead, orders_ahead, close_ahead}
use Rattle.records.specs.Orderly.{WellFormed, Orderly-prop}
use Rattle.records.specs.declared.part.OpenPart.{OpenPart}

abbrev pub part_of : OpenPart → Part
part_of p = record { segment = p.segment; tag = p.tag; fields = fields_ahead (left p.cursor) }

abbrev pub part_upload : OpenPart → List ℕ
part_upload p = p.cursor.upload.now

abbrev pub read_of : OpenPart → OpenPart → Record
read_of header visit = record {
  header = part_of header;
  visit = part_of visit;
  orders = orders_ahead (left visit.cursor);
  close = close_ahead (left visit.cursor);
}

pub record InOrder (header visit : OpenPart) : Type 0 where
  pub reads : part_upload visit ≡ part_upload header
  pub stands : WellFormed (part_upload header) (read_of header visit)
  pub fits : length (part_upload header) < 2 ^ 64

pub InOrder-prop : (header visit : OpenPart) → IsProp (InOrder header visit)
InOrder-prop header visit = hlevel (Orderly-prop, props)
