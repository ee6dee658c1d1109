use Rattle.std.proofs.Common.{arith}
use Rattle.ordered.proofs.Laws.{sorted_empty}
use Rattle.ordered.proofs.table.OrderedTable.new.Goals as goal

pub invariant_of-result : goal.invariant_of-result
invariant_of-result g c = let made = c.in_ok-with_capacity.ensures in (rw made.items (sorted_empty g.K.Ord.cmp), omega arith, omega arith)

pub returns-clause-kept : goal.returns-clause-kept
returns-clause-kept g c =
    let made = c.in_ok-with_capacity.ensures in
    record { rising = rw made.items (sorted_empty g.K.Ord.cmp); within = rw made.items (omega arith) }
