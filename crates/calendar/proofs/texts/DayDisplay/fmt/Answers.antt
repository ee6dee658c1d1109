use Rattle.std.proofs.Output.{has_written_of_eq}
use Rattle.calendar.proofs.Figures.{two_shown, three_shown}
use Rattle.calendar.proofs.Exact.{small}
use Rattle.calendar.proofs.texts.DayDisplay.fmt.Goals as goal

pub returns-clause-writes : goal.returns-clause-writes
returns-clause-writes g c =
    let d = c.args.self.now in
    let s = small d.year d.month d.day d.ok in
    λ p k. has_written_of_eq g.W.Write.write_str_gives _ _ _ _ (simp (c.laid_out.ensures, c.laid_out-2.ensures, c.laid_out-3.ensures, three_shown d.year s.0, two_shown d.month s.1, two_shown d.day s.2)) (c.write.ensures.writes p k)
