use Rattle.std.proofs.Common.{◌∙◌}
use Rattle.ordered_register.proofs.Tables.{found}
use Rattle.ordered_register.proofs.methods.OrderedRegisterRegister.look_up.Goals as goal

pub returns : goal.returns
returns c = c.copied.ensures ∙ c.get.ensures ∙ found c.args.self.now.table c.args.key.now
