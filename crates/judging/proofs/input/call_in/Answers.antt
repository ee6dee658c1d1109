use Rattle.std.proofs.Common.{◌∙◌, refl, ap, drop, arith}
use Rattle.std.proofs.lemmas.List.{take_rest}
use Rattle.judging.proofs.Judging.{behind_sender, behind_day, cut, stripped, not_stripped}
use Rattle.judging.proofs.input.call_in.Goals as goal

pub returns-in_err-strip_prefix : goal.returns-in_err-strip_prefix
returns-in_err-strip_prefix c =
    rw c.from_residual-in_err-strip_prefix.ensures
    (λ s d u p. not_stripped 0x20 c.in_ok-sender.rest.now _ c.in_err-strip_prefix.ensures.cases
    (c.in_ok-sender.ensures.cases.2 ∙ behind_sender c.args.input.now s d u p))

pub returns-in_err-upload : goal.returns-in_err-upload
returns-in_err-upload c =
    let day_on = c.in_ok-strip_prefix.ensures.cases.1 ∙ ap (drop 1) c.in_ok-sender.ensures.cases.2 in
    rw c.from_residual-in_err-upload.ensures
    (λ s d u p. not_stripped 0x0a c.in_ok-day.rest.now _ c.in_err-upload.ensures.cases
    (c.in_ok-day.ensures.cases.2 ∙ ap (drop 7) day_on ∙ behind_day c.args.input.now s d u p))

pub returns : goal.returns
returns c =
    let sender = c.in_ok-sender.ensures.cases in
    let space = c.in_ok-strip_prefix.ensures.cases in
    let day = c.in_ok-day.ensures.cases in
    let feed = c.in_ok-upload.ensures.cases in
    let whole = cut 10 c.args.input.now c.in_ok-sender.sender.now c.in_ok-sender.rest.now sender.1 sender.2 in
    let behind_sender = stripped 0x20 c.in_ok-sender.rest.now c.in_ok-strip_prefix.field-0.now space.0 space.1 in
    let day_on = cut 7 c.in_ok-strip_prefix.field-0.now c.in_ok-day.day.now c.in_ok-day.rest.now day.1 day.2 in
    let behind_day = stripped 0x0a c.in_ok-day.rest.now c.in_ok-upload.upload.now feed.0 feed.1 in
    -- by value, also where a part is a slice to the end of another: `take_rest` says what such a slice holds
    record { input = record { is = simp (whole, behind_sender, day_on, behind_day, take_rest); ten = omega (arith, sender.3); seven = omega (arith, day.3) }; rows = refl }
