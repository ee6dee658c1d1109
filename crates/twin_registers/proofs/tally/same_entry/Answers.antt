use Rattle.std.proofs.lemmas.Bool.Decides.{Decides-at}
use Rattle.twin_registers.proofs.SameEntries.{entries}
use Rattle.twin_registers.proofs.tally.same_entry.Goals as goal

pub returns : goal.returns
returns c = Decides-at _ _ c.eq.ensures (entries _ _)
