use Rattle.std.proofs.Common.{sym, ap}
use Rattle.cursor.proofs.Left.{begun}
use Rattle.records.specs.Records.{records_of}
use Rattle.records.proofs.begin.records.Goals as goal

pub returns-clause-records : goal.returns-clause-records
returns-clause-records c l =
    let e = c.begin-cursor.ensures in
    sym (ap records_of (begun c.begin-cursor.result e.upload e.at e.state l))
