use Rattle.std.proofs.lemmas.Result.{err_from_is_err_and}
use Rattle.receiving.proofs.Lines.{no_call, a_call}
use Rattle.receiving.proofs.input.judge.Goals as goal

pub returns-in_err-call : goal.returns-in_err-call
returns-in_err-call g c =
    let p = err_from_is_err_and c.from_residual.result c.from_residual.ensures.1 in
    rw (p.1, p.2) (no_call _ c.args.input.now _ _ _ c.call_in.result c.in_err-call.field-0.0 c.call_in.ensures c.in_err-call.ensures.value)

pub returns : goal.returns
returns g c = a_call _ c.args.input.now _ _ _ c.call_in.result c.in_ok-call.call _ c.call_in.ensures c.in_ok-call.ensures.ok_part c.receive.ensures.exact c.receive.ensures.verdicts c.receive.ensures.faults
