use Rattle.reader.proofs.Reaching.{Sofar, left}
use Rattle.reader.proofs.structure.read_whole.Given as goal

abbrev pub invariant-loop-token : goal.invariant-loop-token
invariant-loop-token l = Sofar l.upload l.reader.place.upload.now l.reader.place.at l.reader.station

abbrev pub decreases-loop-token : goal.decreases-loop-token
decreases-loop-token l = left l.upload l.reader.place.at l.reader.station
