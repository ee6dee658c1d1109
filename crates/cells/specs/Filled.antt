-- The cells of a segment once its fields are read, and those of a record. Assumes nothing.
--     is_written w        whether a field has a value: an empty one counts as none
--     first_at g f ws     the first of the fields ws that is written and that is the field f of the segment g
--     cell_of o           the cell of its value
--     value_of o          its value, empty if there is none
--     value_in g f ws     the value of the field f of the segment g, where the fields ws are written
--     fields_in x fs g    the fields of the record x that are seen of the segment g, where fs are those of the order that is seen
--     first_in x fs f     the first of them that is the field f and is written
--     Filled p old new    new are the cells old with the fields of the part p, each with its first value, in place of those of its segment; their values are
--                         those of the part, if it is read from the upload of the cells
use Rattle.std.specs.Prelude.{◌≡◌, ℕ, Bool, if◌then◌else◌, not, ◌&&◌, ◌==◌, List, [], length, Option, Some, None}
use Rattle.std.specs.List.{find}
use Rattle.grammar.specs.Items.{value_place}
use Rattle.grammar.specs.declared.states.Segment.{Segment}
use Rattle.grammar.specs.declared.states.Segment.TheVariants.{Header, Visit, Order}
use Rattle.records.specs.Records.{Written, Record}
use Rattle.records.specs.Parts.{part_of, part_upload}
use Rattle.records.specs.declared.part.OpenPart.{OpenPart}
use Rattle.fields.specs.Fields.{segment_of}
use Rattle.fields.specs.declared.field.Field.{Field}
use Rattle.cells.specs.declared.cells.Cell.{Cell}
use Rattle.cells.specs.declared.cells.Cells.{Cells}
use Rattle.cells.specs.Cells.{nowhere, cell_at, value_at, stands_in, is_at}

abbrev pub is_written : Written → Bool
is_written w = not (length w.value == 0)

abbrev pub first_at : Segment → Field → List Written → Option Written
first_at g f ws = find (λ w. is_written w && is_at g w.id f) ws

abbrev pub cell_of : Option Written → Cell
cell_of None = nowhere
cell_of (Some w) = record { place = value_place w.place; len = length w.value }

abbrev pub value_of : Option Written → List ℕ
value_of None = []
value_of (Some w) = w.value

abbrev pub value_in : Segment → Field → List Written → List ℕ
value_in g f ws = value_of (first_at g f ws)

abbrev pub fields_in : Record → List Written → Segment → List Written
fields_in x fs Header = x.header.fields
fields_in x fs Visit = x.visit.fields
fields_in x fs Order = fs

abbrev pub first_in : Record → List Written → Field → Option Written
first_in x fs f = first_at (segment_of f) f (fields_in x fs (segment_of f))

pub record Filled (p : OpenPart) (old new : Cells) : Type 0 where
  pub upload : new.upload ≡ old.upload
  pub cells : (f : Field) → cell_at new f ≡ if stands_in f p.segment then cell_of (first_at p.segment f (part_of p).fields) else cell_at old f
  pub values : part_upload p ≡ old.upload.now → (f : Field)
      → value_at new f ≡ if stands_in f p.segment then value_in p.segment f (part_of p).fields else value_at old f
