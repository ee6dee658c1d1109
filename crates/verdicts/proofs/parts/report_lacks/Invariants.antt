use Rattle.std.proofs.Common.{◌≡◌, take}
use Rattle.std.specs.List.{flat_map}
use Rattle.fields.specs.Fields.{fields_of}
use Rattle.faults.specs.Reports.{told}
use Rattle.rules.specs.Sight.{view_of}
use Rattle.verdicts.specs.Walks.{lacking_any}
use Rattle.verdicts.proofs.parts.report_lacks.Given as goal

abbrev pub invariant-loop-field : goal.invariant-loop-field
invariant-loop-field g l =
    l.report ≡ told l.fn.report (flat_map (lacking_any l.fn.only (view_of g.L.CodeLists.meaning l.fn.seen) l.fn.spot.record l.fn.spot.segment l.fn.part.tag) (take l.field-index (fields_of l.fn.part.segment)))
