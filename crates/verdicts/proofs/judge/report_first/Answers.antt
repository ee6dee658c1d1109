use Rattle.std.proofs.Common.{◌≡◌, ◌+◌, ◌≤◌, length, drop, sym, ap, ◌∙◌, subst}
use Rattle.std.specs.Prelude.{is_some}
use Rattle.faults.specs.Reports.{told}
use Rattle.faults.specs.Rules.{tiers}
use Rattle.faults.specs.declared.rules.Tier.TheVariants.{First}
use Rattle.records.specs.Reading.{record_of}
use Rattle.verdicts.specs.Sights.{setting}
use Rattle.verdicts.specs.Faults.{tiers_faults, faults_of}
use Rattle.verdicts.proofs.Walks.{tier_told, tier_passed, no_tier_left}
use Rattle.verdicts.proofs.judge.report_first.Goals as goal

pub returns-then-is_some : goal.returns-then-is_some
returns-then-is_some g c =
    let s = setting g.L.CodeLists.meaning c.args.head.now.today c.args.head.now.lists.now in
    let left = tiers_faults s c.args.number (record_of c.args.record.now) in
    tier_told s c.args.number (record_of c.args.record.now) c.all-tier-items.result.now c.loop-tier.tier-index First c.loop-tier.report c.report_tier.new.report c.loop-tier-test.true
    (ap (λ r. r.verdict) c.loop-tier.invariant.0 ∙ c.requires.begun) c.report_tier.ensures (ap is_some (sym c.verdict.ensures) ∙ sym c.is_some.ensures ∙ c.if-is_some.true)
    ∙ ap (λ ts. told c.loop-tier.report (left (drop c.loop-tier.tier-index ts))) c.all-tier-items.ensures
    ∙ ap (λ fs. told c.loop-tier.report fs) (sym c.loop-tier.invariant.1)
    ∙ ap (λ r. told r (faults_of s c.args.number (record_of c.args.record.now))) c.loop-tier.invariant.0

pub loop-tier-preserved : goal.loop-tier-preserved
loop-tier-preserved g c =
    let s = setting g.L.CodeLists.meaning c.args.head.now.today c.args.head.now.lists.now in
    let left = tiers_faults s c.args.number (record_of c.args.record.now) in
    let p = tier_passed s c.args.number (record_of c.args.record.now) c.all-tier-items.result.now c.loop-tier.tier-index First c.loop-tier.report c.report_tier.new.report c.loop-tier-test.true
    c.report_tier.ensures (ap is_some (sym c.verdict.ensures) ∙ sym c.is_some.ensures ∙ c.if-is_some.false) in
    (p.0 ∙ c.loop-tier.invariant.0, c.loop-tier.invariant.1 ∙ subst (λ ts. left (drop c.loop-tier.tier-index ts) ≡ left (drop (c.loop-tier.tier-index + 1) ts)) c.all-tier-items.ensures p.1)

pub returns : goal.returns
returns g c =
    let s = setting g.L.CodeLists.meaning c.args.head.now.today c.args.head.now.lists.now in
    c.loop-tier.invariant.0
    ∙ ap (λ fs. told c.args.report.now fs) (sym (c.loop-tier.invariant.1 ∙ no_tier_left s c.args.number (record_of c.args.record.now) tiers c.loop-tier.tier-index (subst (λ ts. length ts ≤ c.loop-tier.tier-index) c.all-tier-items.ensures c.loop-tier-test.false)))
