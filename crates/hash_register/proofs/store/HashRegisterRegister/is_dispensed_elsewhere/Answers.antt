use Rattle.register.proofs.Holding.{dispensed}
use Rattle.hash_register.proofs.Held.{walked}
use Rattle.hash_register.proofs.store.HashRegisterRegister.is_dispensed_elsewhere.Goals as goal

pub returns : goal.returns
returns c =
    let r = c.args.self.now in
    rw (c.any_dispenses.ensures, c.deref.ensures.value, walked _ r.slots.items) (dispensed _ r.most r.table.distinct c.args.key.now)
