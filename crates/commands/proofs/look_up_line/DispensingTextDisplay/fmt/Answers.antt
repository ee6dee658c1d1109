use Rattle.commands.proofs.Shown.{flag_shown}
use Rattle.commands.proofs.look_up_line.DispensingTextDisplay.fmt.Goals as goal

pub returns-clause-writes : goal.returns-clause-writes
returns-clause-writes g c = rw (flag_shown c.args.self.now.0.cancelled c.from-cancelled.result c.from-cancelled.ensures) at c.write.ensures.writes
