use Rattle.records.specs.Reading.{record_of}
use Rattle.verdicts.specs.Sights.{setting}
use Rattle.verdicts.proofs.Walks.{unbroken}
use Rattle.verdicts.proofs.judge.is_clean.Goals as goal

pub returns : goal.returns
returns g c h =
    unbroken (setting g.L.CodeLists.meaning c.args.head.now.today c.args.head.now.lists.now) c.args.number (record_of c.args.record.now) c.new-report.result _ _ _
    c.is_none.ensures c.verdict.ensures c.report_record.ensures h
