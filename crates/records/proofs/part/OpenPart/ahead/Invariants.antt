use Rattle.std.proofs.Common.{◌≡◌}
use Rattle.cursor.specs.Left.{left}
use Rattle.records.specs.Records.{part_ahead, behind}
use Rattle.records.proofs.part.OpenPart.ahead.Given as goal

abbrev pub invariant-loop-piece : goal.invariant-loop-piece
invariant-loop-piece l = record {
  upload : l.cursor.upload.now ≡ l.fn.from.upload.now;
  part : part_ahead l.segment (left l.cursor) ≡ part_ahead l.segment (left l.fn.from);
  behind : behind l.segment (left l.cursor) ≡ behind l.segment (left l.fn.from);
}
