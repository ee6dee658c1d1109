use Rattle.std.proofs.Common.{rules, ◌≡◌, ◌+◌, ◌==◌, not, drop, ap, ◌∙◌, arith}
use Rattle.std.specs.Iterator.Adapters.{take_while_source}
use Rattle.std.specs.Slice.Iter.{iter_rest}
use Rattle.std.proofs.lemmas.Grind.{common_steps}
use Rattle.std.proofs.lemmas.Iterator.{YieldsList-from_slice}
use Rattle.std.proofs.lemmas.Iterator.Consumers.{count_from_yields_List}
use Rattle.std.proofs.lemmas.Iterator.Search.{YieldsList-from_take_while}
use Rattle.std.proofs.lemmas.List.Folds.{length-prefix_len}
use Rattle.cursor.proofs.scan.value_end.Goals as goal
use borrow.Author.Tests.{tests}

pub returns : goal.returns
returns c =
    let ahead = drop c.args.from c.args.upload.now in
    let e : iter_rest c.iter.result ≡ ahead = grind (arith, common_steps, c.iter.ensures.rest) in
    ap (λ n. c.args.from + n)
    (count_from_yields_List c.take_while.result _ c.count.ensures.ran
    (YieldsList-from_take_while _ (λ b. not (b == 0x3c)) (YieldsList-from_slice {s = take_while_source c.take_while.result} ahead (ap iter_rest c.take_while.ensures.source ∙ e)) c.take_while.ensures.closure c.take_while.ensures.done (λ x b q k. search (rules, tests)))
    ∙ length-prefix_len _ ahead)
