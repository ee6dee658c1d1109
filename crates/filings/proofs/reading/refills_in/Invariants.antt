use Rattle.std.proofs.Common.{◌≡◌, take}
use Rattle.filings.specs.Filings.{refills_in}
use Rattle.filings.proofs.reading.refills_in.Given as goal

abbrev pub invariant-loop-digit : goal.invariant-loop-digit
invariant-loop-digit l = l.refills ≡ refills_in (take l.digit-index l.fn.digits)
