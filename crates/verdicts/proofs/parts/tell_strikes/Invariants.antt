use Rattle.std.proofs.Common.{◌≡◌, take}
use Rattle.std.specs.List.{flat_map}
use Rattle.faults.specs.Reports.{told}
use Rattle.records.specs.Reading.{written_of}
use Rattle.fields.specs.Fields.{field_at}
use Rattle.rules.specs.Places.{rules_at}
use Rattle.rules.specs.Sight.{view_of}
use Rattle.verdicts.specs.Walks.{offence}
use Rattle.verdicts.proofs.parts.tell_strikes.Given as goal

abbrev pub invariant-loop-rule : goal.invariant-loop-rule
invariant-loop-rule g l = l.report ≡ told l.fn.report (flat_map (offence (view_of g.L.CodeLists.meaning l.fn.seen) l.fn.segment l.fn.spot.record l.fn.spot.segment l.fn.again (written_of l.fn.field)) (take l.rule-index (rules_at (field_at l.fn.segment l.fn.field.id))))
