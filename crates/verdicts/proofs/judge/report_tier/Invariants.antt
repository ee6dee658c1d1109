use Rattle.std.proofs.Common.{◌≡◌, take}
use Rattle.std.specs.List.{flat_map}
use Rattle.faults.specs.Reports.{told}
use Rattle.faults.specs.Rules.{rules_of}
use Rattle.records.specs.Reading.{record_of}
use Rattle.verdicts.specs.Sights.{setting}
use Rattle.verdicts.specs.Faults.{rule_faults}
use Rattle.verdicts.proofs.judge.report_tier.Given as goal

abbrev pub invariant-loop-rule : goal.invariant-loop-rule
invariant-loop-rule g l =
    l.report ≡ told l.fn.report (flat_map (rule_faults (setting g.L.CodeLists.meaning l.fn.head.today l.fn.head.lists.now) l.fn.number (record_of l.fn.record)) (take l.rule-index (rules_of l.fn.tier)))
