use Rattle.reader.proofs.Parts.{opening_reads}
use Rattle.reader.proofs.place.Place.opening.Goals as goal

pub returns-clause-reads : goal.returns-clause-reads
returns-clause-reads c =
    let h = c.in_ok-end.ensures.stands in
    opening_reads _ _ _ h.bytes h.each h.spans
