use Rattle.std.proofs.Common.{arith}
use Rattle.ordered.proofs.Changes.{took, took_none, taken}
use Rattle.ordered.proofs.Laws.{sorted_remove}
use Rattle.ordered.proofs.table.OrderedTable.take.Goals as goal

pub returns-in-Ok-clause-steps : goal.returns-in-Ok-clause-steps
returns-in-Ok-clause-steps g c =
    let here = rw c.deref.ensures.value at c.in-Ok.ensures.ends in
    rw (← c.self.view_is, c.remove-value.ensures.items) (took g.K.Ord.cmp c.args.key.now _ _ c.remove-value.result c.remove-value.ensures.value here)

pub returns-in-Err-clause-steps : goal.returns-in-Err-clause-steps
returns-in-Err-clause-steps g c =
    let gap = rw c.deref.ensures.value at c.in-Err.ensures.ends in
    rw (← c.self.view_is) (took_none g.met.K.Ord.total c.args.key.now _ _ c.self.invariant.0 gap)

pub invariant_of-self : goal.invariant_of-self
invariant_of-self g c =
    let here = rw c.deref.ensures.value at c.in-Ok.ensures.ends in
    let i = c.self.invariant in
    (rw (c.remove-value.ensures.items, taken g.K.Ord.cmp c.args.key.now _ _ here) (sorted_remove g.met.K.Ord.total c.args.key.now _ i.0), omega (arith, c.remove-value.ensures.len), omega (arith, c.remove-value.ensures.capacity))
