use Rattle.register.proofs.Holding.{dispensed}
use Rattle.register.proofs.Sameness.{distinct}
use Rattle.ordered_register.proofs.methods.OrderedRegisterRegister.is_dispensed_elsewhere.Goals as goal

pub returns : goal.returns
returns c =
    let r = c.args.self.now in
    rw (c.any_dispenses.ensures, c.rows.ensures.entries) (dispensed r.table.entries r.table.most (distinct _ r.rising) c.args.key.now)
