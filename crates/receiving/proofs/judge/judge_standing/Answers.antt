use Rattle.std.proofs.Common.{Some, ◌∙◌, subst}
use Rattle.calendar.specs.Days.{date_of}
use Rattle.fields.specs.declared.field.Field.TheVariants.{M15}
use Rattle.faults.specs.Reports.{told_one}
use Rattle.records.specs.Reading.{record_of}
use Rattle.verdicts.specs.Faults.{fault}
use Rattle.receiving.specs.Judging.{SettledAny}
use Rattle.receiving.proofs.Judged.{same_filing}
use Rattle.receiving.proofs.judge.judge_standing.Goals as goal

pub returns-in-Some-clause-settled : goal.returns-in-Some-clause-settled
returns-in-Some-clause-settled g c =
    let same = c.read-filing.ensures ∙ same_filing c.args.terms.now.sender.now (record_of c.args.record.now) c.of-cells.result c.of-cells.ensures.values in
    subst (λ o. SettledAny (g.R.Register.contents c.args.register.now) (date_of c.args.terms.now.today) o (Some c.in-Some.rule) (g.R.Register.contents c.settle_any-verdict.new.register)) same
    (subst (λ v. SettledAny (g.R.Register.contents c.args.register.now) (date_of c.args.terms.now.today) c.read-filing.result v (g.R.Register.contents c.settle_any-verdict.new.register)) c.in-Some.is c.settle_any-verdict.ensures)

pub returns-in_default-clause-settled : goal.returns-in_default-clause-settled
returns-in_default-clause-settled g c =
    let same = c.read-filing.ensures ∙ same_filing c.args.terms.now.sender.now (record_of c.args.record.now) c.of-cells.result c.of-cells.ensures.values in
    subst (λ o. SettledAny (g.R.Register.contents c.args.register.now) (date_of c.args.terms.now.today) o c.settle_any-verdict.result (g.R.Register.contents c.settle_any-verdict.new.register)) same c.settle_any-verdict.ensures

pub returns-in-Some-clause-told : goal.returns-in-Some-clause-told
returns-in-Some-clause-told g c =
    let cell = c.cell.ensures ∙ c.of-cells.ensures.cells M15 in
    c.tell.ensures ∙ (λ i. told_one c.args.report.now (fault c.args.number 1 c.in-Some.rule (c.id.ensures i) (cell i).place))
