use Rattle.reader.proofs.Exits.{at_exit}
use Rattle.reader.proofs.Readings.{value_reads, value_breaks}
use Rattle.reader.proofs.place.Place.value.Goals as goal

pub returns-in_err-end-clause-breaks : goal.returns-in_err-end-clause-breaks
returns-in_err-end-clause-breaks c =
    at_exit _ _ _ c.from_residual.ensures.1 (λ g i. value_breaks _ _ g i _ c.in_err-end.ensures.breaks)

pub returns-clause-reads : goal.returns-clause-reads
returns-clause-reads c = λ g i. value_reads _ _ g i _ c.in_ok-end.ensures.ends
