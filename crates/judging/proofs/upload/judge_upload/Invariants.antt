use Rattle.std.proofs.Common.{map}
use Rattle.records.specs.Reading.{record_of}
use Rattle.verdicts.specs.Sights.{setting}
use Rattle.judging.proofs.Uploads.{Judged}
use Rattle.judging.proofs.upload.judge_upload.Given as goal

abbrev pub invariant-loop-record : goal.invariant-loop-record
invariant-loop-record g l =
    Judged (setting g.L.CodeLists.meaning l.fn.upload.day l.fn.lists) (map record_of l.yielded) l.initial.report l.report l.judged l.accepted
