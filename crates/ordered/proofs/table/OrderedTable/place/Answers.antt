use Rattle.std.proofs.Common.{arith}
use Rattle.std.proofs.lemmas.Bool.{cond-true}
use Rattle.ordered.proofs.Changes.{put_over, put_new, put_full, over_at, between}
use Rattle.ordered.proofs.Laws.{sorted_insert}
use Rattle.ordered.proofs.table.OrderedTable.place.Goals as goal

pub returns-in-Ok-clause-steps : goal.returns-in-Ok-clause-steps
returns-in-Ok-clause-steps g c =
    let here = rw c.deref.ensures.value at c.in-Ok.ensures.ends in
    rw (← c.self.view_is, c.replace.ensures.value, c.replace.ensures.after)
    (put_over g.met.K.Ord.total _ c.args.key c.args.value _ c.index_mut.result.now c.index_mut.ensures.value here)

pub returns-in-Err-clause-steps : goal.returns-in-Err-clause-steps
returns-in-Err-clause-steps g c =
    let gap = rw c.deref.ensures.value at c.in-Err.ensures.ends in
    let rows = c.self.inside.rows in
    rw (← c.self.view_is) (put_full g.met.K.Ord.total _ c.args.key c.args.value _ c.self.invariant.0 gap (omega (arith, rows.ok.0)))

pub returns-in-Err-2-clause-steps : goal.returns-in-Err-2-clause-steps
returns-in-Err-2-clause-steps g c =
    let gap = rw c.deref.ensures.value at c.in-Err.ensures.ends in
    let rows = c.self.inside.rows in
    rw (← c.self.view_is, c.insert.ensures.items, cond-true _ _ _ (c.insert.ensures.succeeds (omega arith)))
    (put_new g.met.K.Ord.total _ c.args.key c.args.value _ c.self.invariant.0 gap (omega (arith, rows.ok.0)))

pub invariant_of-self : goal.invariant_of-self
invariant_of-self g c =
    let here = rw c.deref.ensures.value at c.in-Ok.ensures.ends in
    let i = c.self.invariant in
    (rw (c.replace.ensures.after, over_at g.K.Ord.cmp c.args.key c.args.value _ _ c.index_mut.result.now c.index_mut.ensures.value here) (sorted_insert g.met.K.Ord.total c.args.key c.args.value _ i.0), i.1, i.2)

pub invariant_of-self-in-Err-2 : goal.invariant_of-self-in-Err-2
invariant_of-self-in-Err-2 g c =
    let gap = rw c.deref.ensures.value at c.in-Err.ensures.ends in
    let i = c.self.invariant in
    let done = c.insert.ensures.succeeds (omega arith) in
    (rw (c.insert.ensures.items, cond-true _ _ _ done, between g.K.Ord.cmp c.args.key c.args.value _ _ gap) (sorted_insert g.met.K.Ord.total c.args.key c.args.value _ i.0), rw (c.insert.ensures.len, cond-true _ _ _ done) (omega arith), omega (arith, c.insert.ensures.capacity))
