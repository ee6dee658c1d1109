use Rattle.reader.proofs.Whites.{skips_white}
use Rattle.reader.proofs.place.Place.past_white.Goals as goal

pub invariant_of-result : goal.invariant_of-result
invariant_of-result c =
    record { within = rw c.past_white.ensures (skips_white c.args.self.upload.now c.args.self.at c.args.self.within).spans.within }

pub returns-clause-skips : goal.returns-clause-skips
returns-clause-skips c = rw c.past_white.ensures (skips_white c.args.self.upload.now c.args.self.at c.args.self.within)
