use Rattle.trials.proofs.Numerals.{one_more}
use Rattle.std.proofs.Common.{arith}
use Rattle.std.proofs.lemmas.Grind.{common_steps}
use Rattle.trials.proofs.draws.digits.Goals as goal

pub loop-i-preserved : goal.loop-i-preserved
loop-i-preserved c = (grind (arith, common_steps, c.loop-i.invariant.0), one_more c.loop-i.digits c.loop-i.i c.loop-i.rest _ c.loop-i.invariant.0 c.loop-i-test.true c.loop-i.invariant.1)
