use Rattle.std.proofs.Common.{◌≡◌, take, Some}
use Rattle.std.specs.List.{flat_map}
use Rattle.faults.specs.Reports.{told}
use Rattle.rules.specs.Places.{rules_at}
use Rattle.rules.specs.Sight.{view_of}
use Rattle.verdicts.specs.Faults.{lacking}
use Rattle.verdicts.proofs.parts.tell_any_lack.Given as goal

abbrev pub invariant-loop-rule : goal.invariant-loop-rule
invariant-loop-rule g l = l.report ≡ told l.fn.report (flat_map (λ r. lacking r (view_of g.L.CodeLists.meaning l.fn.seen) l.fn.spot.record l.fn.spot.segment l.fn.tag l.fn.field) (take l.rule-index (rules_at (Some l.fn.field))))
