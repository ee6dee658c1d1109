use Rattle.ordered.proofs.Laws.{remove_law}
use Rattle.ordered.proofs.table.OrderedTable.remove.Goals as goal

pub returns-clause-law : goal.returns-clause-law
returns-clause-law g c = rw c.take.ensures.steps.after (remove_law g.met.K.Ord.total _ _ c.take.ensures.was_kept)
