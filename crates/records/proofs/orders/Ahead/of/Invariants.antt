use Rattle.std.proofs.Common.{◌≡◌}
use Rattle.cursor.specs.Left.{left}
use Rattle.records.specs.Records.{orders_ahead, close_ahead}
use Rattle.records.proofs.orders.Ahead.of.Given as goal

abbrev pub invariant-loop-piece : goal.invariant-loop-piece
invariant-loop-piece l = record {
  same : l.behind ≡ l.cursor;
  upload : l.cursor.upload.now ≡ l.fn.from.upload.now;
  orders : orders_ahead (left l.cursor) ≡ orders_ahead (left l.fn.from);
  close : close_ahead (left l.cursor) ≡ close_ahead (left l.fn.from);
}
