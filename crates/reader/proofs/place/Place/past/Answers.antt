use Rattle.std.proofs.Common.{◌∙◌, arith}
use Rattle.reader.proofs.Exits.{at_exit}
use Rattle.reader.proofs.Texts.{stands_more, missing}
use Rattle.reader.proofs.place.Place.past.Goals as goal

pub returns-in_err-place-clause-missing : goal.returns-in_err-place-clause-missing
returns-in_err-place-clause-missing g c =
    let h = c.loop-e.invariant in
    at_exit _ _ _ c.from_residual.ensures.1 (missing g.E.Expected.takes _ _ _ _ _ _ c.loop-e-test.true c.e-item.is h.stands _ _ (rw h.same at c.in_err-place.ensures.missing))

pub loop-e-preserved : goal.loop-e-preserved
loop-e-preserved g c =
    let h = c.loop-e.invariant in
    let k = rw h.same at c.in_ok-place.ensures in
    record {
      same = c.in_ok-place.ensures.upload ∙ h.same;
      ends = omega (arith, k.behind);
      stands = stands_more g.E.Expected.takes _ _ _ _ _ _ c.loop-e-test.true c.e-item.is h.stands _ k.within k.takes k.behind;
    }
