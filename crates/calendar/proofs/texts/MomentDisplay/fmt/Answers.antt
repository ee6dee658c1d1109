use Rattle.std.proofs.Output.{has_written_of_eq}
use Rattle.calendar.proofs.Figures.{two_shown}
use Rattle.calendar.proofs.Exact.{timed}
use Rattle.calendar.proofs.texts.MomentDisplay.fmt.Goals as goal

pub returns-clause-writes : goal.returns-clause-writes
returns-clause-writes g c =
    let m = c.args.self.now in
    let s = timed m.hour m.minute m.second m.ok in
    λ p k. has_written_of_eq g.W.Write.write_str_gives _ _ _ _ (simp (c.laid_out.ensures, c.laid_out-2.ensures, c.laid_out-3.ensures, two_shown m.hour s.0, two_shown m.minute s.1, two_shown m.second s.2)) (c.write.ensures.writes p k)
