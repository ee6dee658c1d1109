use Rattle.std.proofs.Common.{map}
use Rattle.faults.specs.Reports.{told}
use Rattle.records.specs.Reading.{part_of, part_upload, record_of}
use Rattle.rules.specs.Sight.{view_of}
use Rattle.verdicts.specs.Sights.{setting}
use Rattle.verdicts.specs.Walks.{head_walk}
use Rattle.verdicts.proofs.Walking.{Walked}
use Rattle.verdicts.proofs.walk.report_record.Given as goal

abbrev pub invariant-loop-order : goal.invariant-loop-order
invariant-loop-order g l =
    let s = setting g.L.CodeLists.meaning l.fn.head.today l.fn.head.lists.now in
    Walked s l.fn.number (record_of l.fn.record) l.fn.only (part_upload l.fn.record.header) (map part_of l.yielded)
    (told l.fn.report (head_walk s l.fn.number (record_of l.fn.record) l.fn.only)) l.report (view_of g.L.CodeLists.meaning l.seen) l.seen.cells.upload.now l.segment
