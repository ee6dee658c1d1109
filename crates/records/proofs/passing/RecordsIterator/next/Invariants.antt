use Rattle.std.proofs.Common.{◌≡◌, length}
use Rattle.cursor.specs.Left.{left}
use Rattle.records.specs.Records.{records_of}
use Rattle.records.proofs.passing.RecordsIterator.next.Given as goal

abbrev pub invariant-loop-piece : goal.invariant-loop-piece
invariant-loop-piece l = record {
  upload : l.self.cursor.upload.now ≡ l.fn.self.cursor.upload.now;
  records : records_of (left l.self.cursor) ≡ records_of (left l.fn.self.cursor);
}

abbrev pub decreases-loop-piece : goal.decreases-loop-piece
decreases-loop-piece l = length (left l.self.cursor)
