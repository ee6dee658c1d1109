use Rattle.std.proofs.Common.{map}
use Rattle.records.specs.Reading.{record_of}
use Rattle.verdicts.specs.Sights.{setting}
use Rattle.receiving.proofs.Loops.{SoFar}
use Rattle.receiving.proofs.receive.receive_records.Given as goal

abbrev pub invariant-loop-record : goal.invariant-loop-record
invariant-loop-record g l =
    SoFar (setting g.L.CodeLists.meaning l.fn.upload.day l.fn.lists) l.fn.upload.sender.now (map record_of l.yielded) (g.R.Register.contents l.fn.register) l.fn.verdicts l.initial.report
    (g.R.Register.contents l.register) l.verdicts l.report l.judged l.accepted
