use Rattle.register.proofs.Holding.{taken}
use Rattle.register.proofs.Sameness.{distinct}
use Rattle.ordered_register.proofs.methods.OrderedRegisterRegister.is_taken_elsewhere.Goals as goal

pub returns : goal.returns
returns c =
    let r = c.args.self.now in
    rw (c.any_takes.ensures, c.rows.ensures.entries) (taken r.table.entries r.table.most (distinct _ r.rising) c.args.key.now c.args.refill c.args.than.now)
