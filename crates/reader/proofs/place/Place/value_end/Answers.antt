use Rattle.std.proofs.Common.{refl}
use Rattle.reader.proofs.Exits.{at_exit}
use Rattle.reader.proofs.Characters.{walked_none, walked_more, walked_fault}
use Rattle.reader.proofs.place.Place.value_end.Goals as goal

pub loop-behind-init : goal.loop-behind-init
loop-behind-init c = record { same = refl; walked = walked_none _ _ c.args.self.within }

pub returns-in_err-behind-clause-breaks : goal.returns-in_err-behind-clause-breaks
returns-in_err-behind-clause-breaks c =
    let h = c.loop-behind.invariant in
    at_exit _ _ _ c.from_residual.ensures.1 (walked_fault _ _ _ h.walked _ (rw h.same at c.in_err-behind.ensures.breaks))

pub loop-behind-preserved : goal.loop-behind-preserved
loop-behind-preserved c =
    let h = c.loop-behind.invariant in
    let k = rw (c.in-Some.is, h.same) at c.in_ok-behind.ensures in
    record { same = k.upload; walked = walked_more _ _ _ h.walked _ k.is }
