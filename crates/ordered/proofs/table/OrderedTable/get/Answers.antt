use Rattle.std.proofs.Common.{sym, ◌∙◌, ap, Some}
use Rattle.ordered.proofs.Changes.{found, missing}
use Rattle.ordered.proofs.table.OrderedTable.get.Goals as goal

pub returns-in-Ok : goal.returns-in-Ok
returns-in-Ok g c =
    let here = rw c.deref.ensures.value at c.in-Ok.ensures.ends in
    rw (← c.self.view_is) (ap (λ (e : g.row.K.Denot × g.row.V.Denot). Some e.1) c.index.ensures ∙ sym (found g.K.Ord.cmp c.args.key.now _ _ _ here))

pub returns-in-Err : goal.returns-in-Err
returns-in-Err g c =
    let gap = rw c.deref.ensures.value at c.in-Err.ensures.ends in
    rw (← c.self.view_is) (sym (missing g.met.K.Ord.total c.args.key.now _ _ c.self.invariant.0 gap))
