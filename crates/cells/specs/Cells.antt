-- Where the values of a record's fields stand. Assumes nothing.
--     nowhere                the cell of a field that is not written
--     is_free c              whether the cell is such a one
--     cell_at cs f           the cell of the field
--     text_at u c            the bytes of the upload u that stand in the cell
--     value_at cs f          the value of the field, empty if it is not written
--     stands_in f g          whether the field is one of the segment g
--     is_at g i f            whether the ID i names the field in the segment g
--     cleared g cs f         its cell, once the fields of the segment g have none
--     put g i c cs f         its cell, once a field with the ID i in the segment g has its value in the cell c: the first value of a field counts
use Rattle.std.specs.Prelude.{ℕ, Bool, false, if◌then◌else◌, ◌&&◌, ◌==◌, List, take, drop, slice_index_or}
use Rattle.std.specs.List.{list_any}
use Rattle.std.specs.Option.{option_map_or}
use Rattle.grammar.specs.declared.states.Segment.{Segment}
use Rattle.grammar.specs.declared.states.FieldId.{FieldId}
use Rattle.fields.specs.Fields.{row, fields_of, field_at}
use Rattle.fields.specs.declared.field.Field.{Field}
use Rattle.cells.specs.declared.cells.Cell.{Cell}
use Rattle.cells.specs.declared.cells.Cells.{Cells}

abbrev pub nowhere : Cell
nowhere = record { place = 0; len = 0 }

abbrev pub is_free : Cell → Bool
is_free c = c.len == 0

abbrev pub cell_at : Cells → Field → Cell
cell_at cs f = slice_index_or cs.cells (row f) nowhere

abbrev pub text_at : List ℕ → Cell → List ℕ
text_at u c = take c.len (drop c.place u)

abbrev pub value_at : Cells → Field → List ℕ
value_at cs f = text_at cs.upload.now (cell_at cs f)

abbrev pub stands_in : Field → Segment → Bool
stands_in f g = list_any (λ h. row h == row f) (fields_of g)

abbrev pub is_at : Segment → FieldId → Field → Bool
is_at g i f = option_map_or (λ h. row h == row f) (field_at g i) false

abbrev pub cleared : Segment → Cells → Field → Cell
cleared g cs f = if stands_in f g then nowhere else cell_at cs f

abbrev pub put : Segment → FieldId → Cell → Cells → Field → Cell
put g i c cs f = if is_at g i f && is_free (cell_at cs f) then c else cell_at cs f
