use Rattle.grammar.proofs.Tested.{lawful_from_test}
use Rattle.cursor.proofs.Steps.{declared_within, declared_lawful}
use Rattle.cursor.proofs.cursor.begin.Goals as goal

pub invariant_of-result : goal.invariant_of-result
invariant_of-result c =
    let l = lawful_from_test c.args.upload.bytes.now c.args.upload.lawful in
    rw c.declaration_text.ensures (record { within = declared_within l; rest = declared_lawful l })
