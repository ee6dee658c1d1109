use Rattle.std.proofs.Common.{rules, ◌≡◌, drop, ◌∙◌, arith}
use Rattle.std.proofs.lemmas.Grind.{common_steps}
use Rattle.std.proofs.lemmas.Iterator.{YieldsList-from_slice}
use Rattle.std.proofs.lemmas.Iterator.Consumers.{count_from_yields_List}
use Rattle.std.proofs.lemmas.Iterator.Search.{YieldsList-from_take_while}
use Rattle.std.proofs.lemmas.List.{drop_all}
use Rattle.std.proofs.lemmas.List.Folds.{length-prefix_len}
use Rattle.grammar.specs.Ahead.{white_len}
use Rattle.grammar.specs.Bytes.{white}
use Rattle.grammar.proofs.ahead.past_white.Goals as goal
use borrow.Author.Tests.{tests}

pub returns : goal.returns
returns c =
    let ahead = drop c.args.from c.args.upload.now in
    let e : c.unwrap_or_default-rest.result.now ≡ ahead = grind (arith, common_steps, drop_all) in
    let white_there : c.count.result ≡ white_len ahead =
    count_from_yields_List c.take_while.result _ c.count.ensures.ran
    (YieldsList-from_take_while _ white (YieldsList-from_slice ahead cc) c.take_while.ensures.closure c.take_while.ensures.done (λ x b q k. search (rules, tests)))
    ∙ length-prefix_len white ahead in
    grind (arith, white_there)
