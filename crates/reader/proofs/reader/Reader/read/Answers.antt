use Rattle.reader.proofs.Answering.{breaks_stops}
use Rattle.reader.proofs.Exits.{at_exit}
use Rattle.reader.proofs.reader.Reader.read.Goals as goal

pub returns-in_err-value-in-Opened-clause-stops : goal.returns-in_err-value-in-Opened-clause-stops
returns-in_err-value-in-Opened-clause-stops c =
    rw c.in-Opened.is (at_exit _ _ _ c.from_residual-in_err-value-in-Opened.ensures.1 (breaks_stops _ _ _ tt _ (c.in_err-value-in-Opened.ensures.breaks _ _)))

pub returns-in_ok-value-in-Opened-clause-reads : goal.returns-in_ok-value-in-Opened-clause-reads
returns-in_ok-value-in-Opened-clause-reads c = rw c.in-Opened.is (c.in_ok-value-in-Opened.ensures.reads _ _)

pub returns-in_err-closing-in-Filled-clause-stops : goal.returns-in_err-closing-in-Filled-clause-stops
returns-in_err-closing-in-Filled-clause-stops c =
    rw c.in-Filled.is (at_exit _ _ _ c.from_residual-in_err-closing-in-Filled.ensures.1 (breaks_stops _ _ _ tt _ (c.in_err-closing-in-Filled.ensures.breaks _)))

pub returns-in_ok-closing-in-Filled-clause-reads : goal.returns-in_ok-closing-in-Filled-clause-reads
returns-in_ok-closing-in-Filled-clause-reads c = rw c.in-Filled.is (c.in_ok-closing-in-Filled.ensures.reads _)
