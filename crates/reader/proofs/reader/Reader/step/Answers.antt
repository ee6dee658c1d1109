use Rattle.reader.proofs.Exits.{at_exit}
use Rattle.reader.proofs.Reaching.{after_is}
use Rattle.reader.proofs.Answering.{ends_early, stops_law}
use Rattle.std.proofs.Common.{sym}
use Rattle.reader.proofs.reader.Reader.step.Goals as goal

pub returns-in-None-2-clause-refused : goal.returns-in-None-2-clause-refused
returns-in-None-2-clause-refused c = ends_early _ _ c.in-None-2.ensures.end _ (sym c.if-may_end.ensures) c.requires

pub returns-in_err-token-in-Some-clause-refused : goal.returns-in_err-token-in-Some-clause-refused
returns-in_err-token-in-Some-clause-refused c =
    at_exit _ _ _ c.from_residual.ensures.1 (stops_law _ _ c.in-Some.ensures.within _ _ c.requires c.in_err-token-in-Some.ensures.stops)

pub returns-in_ok-token-in-Some-clause-reads : goal.returns-in_ok-token-in-Some-clause-reads
returns-in_ok-token-in-Some-clause-reads c =
    let r = c.in_ok-token-in-Some.ensures.reads in
    rw (c.advance.ensures.station, c.advance.ensures.at, after_is _ _ _ _ _ _ r.1) r.1
