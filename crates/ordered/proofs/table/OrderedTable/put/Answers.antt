use Rattle.ordered.proofs.Laws.{kept_put}
use Rattle.ordered.proofs.table.OrderedTable.put.Goals as goal

pub returns-clause-kept : goal.returns-clause-kept
returns-clause-kept g c = rw c.place.ensures.steps.after (kept_put g.met.K.Ord.total _ _ _ c.place.ensures.was_kept)
