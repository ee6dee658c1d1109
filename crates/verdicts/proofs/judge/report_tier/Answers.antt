use Rattle.std.proofs.Common.{sym}
use Rattle.faults.specs.declared.rules.Rule.TheVariants.{Misplaced}
use Rattle.records.specs.Reading.{record_of}
use Rattle.verdicts.specs.Sights.{setting}
use Rattle.verdicts.proofs.Walks.{rule_more}
use Rattle.verdicts.proofs.judge.report_tier.Goals as goal

pub loop-rule-preserved : goal.loop-rule-preserved
loop-rule-preserved g c =
    rw (sym c.rules-rule-items.ensures)
    (rule_more (setting g.L.CodeLists.meaning c.args.head.now.today c.args.head.now.lists.now) c.args.number (record_of c.args.record.now) c.rules-rule-items.result.now c.loop-rule.rule-index Misplaced
    c.args.report.now c.loop-rule.report c.report_record.new.report c.loop-rule-test.true (rw (sym c.rules-rule-items.ensures) at c.loop-rule.invariant) c.report_record.ensures)
