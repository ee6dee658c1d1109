use Rattle.visits.proofs.Streams.{complete_end}
use Rattle.visits.proofs.session.Session.finish.Goals as goal

pub returns : goal.returns
returns c = λ bs given told. complete_end bs given _ _ told _ c.end_line-last.ensures c.if-is_empty.ensures
