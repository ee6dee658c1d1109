use Rattle.std.proofs.Common.{sym, subst, arith}
use Rattle.cursor.specs.Left.{left}
use Rattle.records.specs.Orderly.{WellFormed}
use Rattle.records.proofs.Opened.{read_ahead}
use Rattle.records.proofs.Orderly.{well_formed, parts_in_order}
use Rattle.records.proofs.passing.OpenRecord.ahead.Goals as goal

pub returns-clause-record : goal.returns-clause-record
returns-clause-record c =
    read_ahead _ _ (left c.args.from) c.requires c.ahead.ensures.part c.ahead-2.ensures.part c.ahead-2.ensures.behind

pub returns-clause-stands : goal.returns-clause-stands
returns-clause-stands c = subst (WellFormed c.args.from.upload.now) (sym (returns-clause-record c)) (well_formed c.args.from c.requires)

pub invariant_of-result : goal.invariant_of-result
invariant_of-result c =
    let read = read_ahead c.ahead.result c.ahead-2.result (left c.args.from) c.requires c.ahead.ensures.part c.ahead-2.ensures.part c.ahead-2.ensures.behind in
    record { in_order = parts_in_order c.args.from _ _ c.requires read c.ahead.ensures.upload c.ahead-2.ensures.upload (omega arith) }
