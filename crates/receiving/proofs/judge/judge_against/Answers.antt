use Rattle.std.proofs.Common.{refl, sym, ap, ◌∙◌}
use Rattle.faults.specs.Reports.{begun, told}
use Rattle.records.specs.Reading.{record_of}
use Rattle.verdicts.specs.Sights.{setting}
use Rattle.receiving.specs.Contents.{filing_of}
use Rattle.receiving.proofs.Judged.{itself, unfaulted, by_register, told_by_register}
use Rattle.receiving.proofs.judge.judge_against.Goals as goal

pub returns-in-Some-clause-judged : goal.returns-in-Some-clause-judged
returns-in-Some-clause-judged g c =
    (itself (setting g.L.CodeLists.meaning c.args.terms.now.today c.args.terms.now.lists.now) c.args.terms.now.sender.now c.args.number (record_of c.args.record.now) (g.R.Register.contents c.args.register.now)
    c.in-Some.rule (sym c.judge_alone.ensures.verdict ∙ c.in-Some.is)).0

pub returns-in-Some-clause-told : goal.returns-in-Some-clause-told
returns-in-Some-clause-told g c =
    c.judge_alone.ensures.told
    ∙ ap (told (begun c.args.report.now)) (itself (setting g.L.CodeLists.meaning c.args.terms.now.today c.args.terms.now.lists.now) c.args.terms.now.sender.now c.args.number (record_of c.args.record.now)
    (g.R.Register.contents c.args.register.now) c.in-Some.rule (sym c.judge_alone.ensures.verdict ∙ c.in-Some.is)).1

pub returns-in-None-clause-judged : goal.returns-in-None-clause-judged
returns-in-None-clause-judged g c =
    let s = setting g.L.CodeLists.meaning c.args.terms.now.today c.args.terms.now.lists.now in
    let x = record_of c.args.record.now in
    let e = unfaulted s c.args.terms.now.sender.now c.args.number x (g.R.Register.contents c.args.register.now) (sym c.judge_alone.ensures.verdict ∙ c.in-None.is) in
    by_register s c.args.terms.now.sender.now c.args.number x (g.R.Register.contents c.args.register.now) e (filing_of c.args.terms.now.sender.now x) refl c.judge_standing.result
    (g.R.Register.contents c.judge_standing.new.register) c.judge_standing.ensures.settled

pub returns-in-None-clause-told : goal.returns-in-None-clause-told
returns-in-None-clause-told g c =
    let s = setting g.L.CodeLists.meaning c.args.terms.now.today c.args.terms.now.lists.now in
    let x = record_of c.args.record.now in
    let e = unfaulted s c.args.terms.now.sender.now c.args.number x (g.R.Register.contents c.args.register.now) (sym c.judge_alone.ensures.verdict ∙ c.in-None.is) in
    told_by_register s c.args.terms.now.sender.now c.args.number x (g.R.Register.contents c.args.register.now) e c.judge_standing.result c.args.report.now _ _ c.judge_alone.ensures.told c.judge_standing.ensures.told
