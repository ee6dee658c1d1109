use Rattle.std.proofs.Common.{◌≡◌, drop}
use Rattle.faults.specs.Rules.{tiers}
use Rattle.records.specs.Reading.{record_of}
use Rattle.verdicts.specs.Sights.{setting}
use Rattle.verdicts.specs.Faults.{faults_of, tiers_faults}
use Rattle.verdicts.proofs.judge.report_first.Given as goal

abbrev pub invariant-loop-tier : goal.invariant-loop-tier
invariant-loop-tier g l =
    let s = setting g.L.CodeLists.meaning l.fn.head.today l.fn.head.lists.now in
    (l.report ≡ l.fn.report) × (faults_of s l.fn.number (record_of l.fn.record) ≡ tiers_faults s l.fn.number (record_of l.fn.record) (drop l.tier-index tiers))
