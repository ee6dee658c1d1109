use Rattle.std.proofs.Common.{rules}
use Rattle.records.proofs.Opened.{opened_left}
use Rattle.records.proofs.passing.RecordsIterator.next.Goals as goal

pub ahead-requires : goal.ahead-requires
ahead-requires c = opened_left c.loop-piece.self.cursor c.in-Some.piece _ _ _ c.in-Some.ensures.steps.gives c.in-Structure.is (search rules)
