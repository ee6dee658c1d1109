use Rattle.std.proofs.Common.{ap}
use Rattle.records.specs.Records.{fields_ahead}
use Rattle.records.proofs.Lying.{first_lies}
use Rattle.records.proofs.fields.FieldsIterator.next.Goals as goal

pub returns-in-Field-clause-steps : goal.returns-in-Field-clause-steps
returns-in-Field-clause-steps c =
    let step = rw c.in-Field.is at c.in_ok-id.ensures.steps in
    record { gives = ap fields_ahead step.gives; lies = first_lies _ _ _ _ _ step.gives; upload = step.upload }
