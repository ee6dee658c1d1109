use Rattle.std.proofs.Common.{sym, ap}
use Rattle.std.proofs.lemmas.Result.{err_from_is_err_and}
use Rattle.uploads.specs.Answers.{wrong_length, wrong_structure}
use Rattle.uploads.specs.Calls.{call_of}
use Rattle.uploads.proofs.Deciding.{no_day_told, told_day, seen, beyond_limits, foreign_sender, all_right}
use Rattle.uploads.proofs.opening.answer.Goals as goal

pub returns-in_err-day : goal.returns-in_err-day
returns-in_err-day c =
    let p = err_from_is_err_and c.from_residual.result c.from_residual.ensures.1 in
    rw (p.1, p.2) (no_day_told c.day_of.ensures c.in_err-day.ensures.ok_part c.in_err-day.ensures.value)

pub returns-then-not-has_right_length : goal.returns-then-not-has_right_length
returns-then-not-has_right_length c =
    wrong_length (told_day c.day_of.ensures c.in_ok-day.ensures.ok_part) (sym c.if-not-has_right_length.ensures)

pub returns-in_err-file : goal.returns-in_err-file
returns-in_err-file c =
    let r = c.from_residual-in_err-file in
    let p = err_from_is_err_and r.result r.ensures.1 in
    let d = told_day c.day_of.ensures c.in_ok-day.ensures.ok_part in
    rw (p.1, p.2)
    (wrong_structure (record { day = d; length = sym c.if-not-has_right_length.ensures }) c.in_err-file.ensures.law.law)

pub returns-in-Some : goal.returns-in-Some
returns-in-Some c =
    let f = c.in_ok-file.ensures in
    let e = ap (λ x. x.now) f.same in
    let s = c.survey-found.ensures in
    beyond_limits
    (seen (call_of c.args.call) c.day_of.ensures c.in_ok-day.ensures.ok_part c.if-not-has_right_length.ensures f.law.law e
    (record { records = s.records; beyond = s.beyond; foreign = s.foreign }))
    c.in-Some.is

pub returns-in-Some-foreign : goal.returns-in-Some-foreign
returns-in-Some-foreign c =
    let f = c.in_ok-file.ensures in
    let e = ap (λ x. x.now) f.same in
    let s = c.survey-found.ensures in
    foreign_sender
    (seen (call_of c.args.call) c.day_of.ensures c.in_ok-day.ensures.ok_part c.if-not-has_right_length.ensures f.law.law e
    (record { records = s.records; beyond = s.beyond; foreign = s.foreign }))
    c.in_default.is
    c.in-Some-foreign.is

pub returns : goal.returns
returns c =
    let f = c.in_ok-file.ensures in
    let e = ap (λ x. x.now) f.same in
    let s = c.survey-found.ensures in
    all_right
    (seen (call_of c.args.call) c.day_of.ensures c.in_ok-day.ensures.ok_part c.if-not-has_right_length.ensures f.law.law e
    (record { records = s.records; beyond = s.beyond; foreign = s.foreign }))
    c.in_default.is
    e
    c.in_default-foreign.is
