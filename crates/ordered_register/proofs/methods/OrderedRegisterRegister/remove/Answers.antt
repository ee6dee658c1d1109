use Rattle.std.proofs.Common.{ap, is_some, ◌∙◌}
use Rattle.ordered_register.proofs.Tables.{found, held_without}
use Rattle.ordered_register.proofs.methods.OrderedRegisterRegister.remove.Goals as goal

pub returns : goal.returns
returns c =
    let t = c.args.self.now.table in
    record { answer = c.is_some.ensures ∙ ap is_some (c.remove.ensures.answer ∙ found t c.args.key.now); after = held_without t c.args.key.now _ c.remove.ensures.law }
