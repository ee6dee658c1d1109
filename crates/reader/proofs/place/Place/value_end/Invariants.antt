use Rattle.std.proofs.Common.{◌≡◌, ◌-◌, length}
use Rattle.reader.proofs.Characters.{Walked}
use Rattle.reader.proofs.place.Place.value_end.Given as goal

abbrev pub invariant-loop-behind : goal.invariant-loop-behind
invariant-loop-behind l =
    record {
      same : l.place.upload ≡ l.self.upload;
      walked : Walked l.self.upload.now l.self.at l.place.at;
    }

abbrev pub decreases-loop-behind : goal.decreases-loop-behind
decreases-loop-behind l = length l.self.upload.now - l.place.at
