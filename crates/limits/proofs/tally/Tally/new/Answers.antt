use Rattle.std.proofs.Common.{refl}
use Rattle.limits.proofs.Firsts.{nowhere_none}
use Rattle.limits.proofs.tally.Tally.new.Goals as goal

pub returns : goal.returns
returns c = record { for_sender = refl; counted = record { records = refl; orders = refl }; beyond = nowhere_none; foreign = nowhere_none }
