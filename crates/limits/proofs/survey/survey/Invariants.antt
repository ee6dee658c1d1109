use Rattle.std.proofs.Common.{map}
use Rattle.cursor.specs.Pieces.{item}
use Rattle.limits.specs.Tallies.{Tallied}
use Rattle.limits.proofs.survey.survey.Given as goal

abbrev pub invariant-loop-piece : goal.invariant-loop-piece
invariant-loop-piece l = Tallied l.fn.sender (map item l.yielded) l.tally
