use Rattle.std.proofs.lemmas.Result.{err_from_is_err_and}
use Rattle.judging.proofs.Judging.{no_call, refused_call, taken_call}
use Rattle.judging.proofs.input.judge.Goals as goal

pub returns-in_err-call : goal.returns-in_err-call
returns-in_err-call g c =
    let p = err_from_is_err_and c.from_residual.result c.from_residual.ensures.1 in
    rw (p.1, p.2) (no_call _ c.args.input.now _ c.call_in.result c.in_err-call.field-0.0 c.call_in.ensures c.in_err-call.ensures.value)

pub returns-in_err-upload : goal.returns-in_err-upload
returns-in_err-upload g c =
    let p = err_from_is_err_and c.from_residual-in_err-upload.result c.from_residual-in_err-upload.ensures.1 in
    rw (p.1, p.2) (refused_call _ c.args.input.now _ c.call_in.result c.in_ok-call.call _ c.call_in.ensures c.in_ok-call.ensures.ok_part c.in_err-upload.ensures.law)

pub returns : goal.returns
returns g c = taken_call _ c.args.input.now _ c.call_in.result c.in_ok-call.call _ _ _ c.call_in.ensures c.in_ok-call.ensures.ok_part c.in_ok-upload.ensures.law c.judge_upload.ensures
