use Rattle.std.proofs.Common.{refl}
use Rattle.verdicts.proofs.Sighting.{same_view}
use Rattle.verdicts.proofs.sights.open.Goals as goal

pub returns-clause-sight : goal.returns-clause-sight
returns-clause-sight g c = same_view _ _ refl refl c.of.ensures.values (λ n. c.new.ensures n) c.has_orders.ensures
