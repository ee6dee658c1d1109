use Rattle.std.proofs.Common.{◌∙◌, sym, arith}
use Rattle.commands.proofs.Zeros.{dropped_at, kept_at, none_left}
use Rattle.commands.proofs.texts.without_zeros.Goals as goal
use Rattle.commands.proofs.texts.without_zeros.Goals.{then-loop-end-test+else-bytes-end-eq0, else-loop-end-test}

pub loop-end-preserved : goal.loop-end-preserved
loop-end-preserved c =
    (omega arith, c.loop-end.invariant.1 ∙ dropped_at c.args.bytes.now c.loop-end.end (omega arith) c.loop-end.invariant.0 c.if-bytes-end-eq0.true)

pub returns : goal.returns
returns c = sym (c.loop-end.invariant.1 ∙ elim c.loop-end-test.branch [
  | then-loop-end-test+else-bytes-end-eq0 w ↦ kept_at c.args.bytes.now c.loop-end.end w.loop-end-test.true c.loop-end.invariant.0 w.if-bytes-end-eq0.false
  | else-loop-end-test w ↦ none_left c.args.bytes.now c.loop-end.end w.loop-end-test.false
])
