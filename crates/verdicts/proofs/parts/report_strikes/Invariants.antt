use Rattle.std.proofs.Common.{map}
use Rattle.records.specs.Reading.{written_of}
use Rattle.rules.specs.Sight.{view_of}
use Rattle.verdicts.proofs.Striking.{Struck}
use Rattle.verdicts.proofs.parts.report_strikes.Given as goal

abbrev pub invariant-loop-field : goal.invariant-loop-field
invariant-loop-field g l =
    Struck l.fn.only (view_of g.L.CodeLists.meaning l.fn.seen) l.fn.part.segment l.fn.spot.record l.fn.spot.segment (map written_of l.yielded) l.fn.report l.report l.ids
