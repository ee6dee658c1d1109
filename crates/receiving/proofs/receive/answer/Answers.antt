use Rattle.std.proofs.Common.{refl, subst}
use Rattle.std.proofs.lemmas.Result.{err_from_is_err_and}
use Rattle.receiving.specs.Contents.{Read}
use Rattle.receiving.specs.Receiving.{goes_back}
use Rattle.receiving.proofs.Calls.{received}
use Rattle.receiving.proofs.Taking.{same_upload}
use Rattle.receiving.proofs.receive.answer.Goals as goal

pub returns-in_err-upload-clause-received : goal.returns-in_err-upload-clause-received
returns-in_err-upload-clause-received g c =
    let p = err_from_is_err_and c.from_residual.result c.from_residual.ensures.1 in
    rw (p.1, p.2) (goes_back c.in_err-upload.ensures.law refl)

pub returns-clause-received : goal.returns-clause-received
returns-clause-received g c =
    received (g.L.CodeLists.meaning c.args.lists.now) c.args.delivery.sender.now c.args.delivery.day.now c.args.delivery.upload.now c.args.verdicts.now _ c.args.faults.now _ _ _ _ _ c.in_ok-upload.ensures.law c.receive_records.ensures.judged

pub returns-clause-read : goal.returns-clause-read
returns-clause-read g c = subst Read (same_upload _ _ c.in_ok-upload.ensures.law.law).0 c.receive_records.ensures.read
