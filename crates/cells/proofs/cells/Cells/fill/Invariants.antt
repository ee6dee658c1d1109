use Rattle.std.proofs.Common.{map}
use Rattle.records.specs.Reading.{written_of, part_upload}
use Rattle.cells.proofs.Filling.{Fills}
use Rattle.cells.proofs.cells.Cells.fill.Given as goal

abbrev pub invariant-loop-field : goal.invariant-loop-field
invariant-loop-field l = Fills (part_upload l.fn.part) l.fn.part.segment (map written_of l.yielded) l.fn.self l.self
