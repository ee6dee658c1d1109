use Rattle.std.proofs.Common.{◌≡◌, ◌==◌, if◌then◌else◌, take}
use Rattle.std.specs.List.{list_any}
use Rattle.fields.specs.Fields.{row, fields_of}
use Rattle.fields.specs.declared.field.Field.{Field as AnyField}
use Rattle.cells.specs.Cells.{nowhere, cell_at}
use Rattle.cells.proofs.cells.Cells.clear.Given as goal

abbrev pub invariant-loop-field : goal.invariant-loop-field
invariant-loop-field l =
    (l.self.upload ≡ l.fn.self.upload)
    × ((f : AnyField) → cell_at l.self f ≡ if list_any (λ h. row h == row f) (take l.field-index (fields_of l.fn.segment)) then nowhere else cell_at l.fn.self f)
