use Rattle.reader.proofs.Exits.{at_exit}
use Rattle.reader.proofs.Readings.{name_breaks, id_breaks, end_breaks, closing_reads}
use Rattle.reader.proofs.place.Place.closing.Goals as goal

pub returns-in_err-name-clause-breaks : goal.returns-in_err-name-clause-breaks
returns-in_err-name-clause-breaks c =
    at_exit _ _ _ c.from_residual.ensures.1 (λ g. name_breaks _ _ g c.args.id _ c.in_err-name.ensures.missing)

pub returns-in_err-end-clause-breaks : goal.returns-in_err-end-clause-breaks
returns-in_err-end-clause-breaks c =
    let n = c.in_ok-name.ensures in
    at_exit _ _ _ c.from_residual-in_err-end.ensures.1 (λ g. id_breaks _ _ g c.args.id _ n.stands _ (rw n.upload at c.in_err-end.ensures.missing))

pub returns-in_err-close-clause-breaks : goal.returns-in_err-close-clause-breaks
returns-in_err-close-clause-breaks c =
    let n = c.in_ok-name.ensures in
    let e = rw n.upload at c.in_ok-end.ensures in
    at_exit _ _ _ c.from_residual-in_err-close.ensures.1 (λ g. end_breaks _ _ g c.args.id _ n.stands _ e.stands _ (rw e.upload at c.in_err-close.ensures.missing))

pub returns-clause-reads : goal.returns-clause-reads
returns-clause-reads c = λ g.
    let n = c.in_ok-name.ensures in
    let e = rw n.upload at c.in_ok-end.ensures in
    let k = rw e.upload at c.in_ok-close.ensures in
    closing_reads _ _ g c.args.id _ n.stands _ e.stands _ _ k.stands (rw k.upload at c.past_white.ensures.skips)
