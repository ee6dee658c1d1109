use Rattle.register.proofs.Holding.{taken}
use Rattle.hash_register.proofs.Held.{walked}
use Rattle.hash_register.proofs.store.HashRegisterRegister.is_taken_elsewhere.Goals as goal

pub returns : goal.returns
returns c =
    let r = c.args.self.now in
    rw (c.any_takes.ensures, c.deref.ensures.value, walked _ r.slots.items) (taken _ r.most r.table.distinct c.args.key.now c.args.refill c.args.than.now)
