use Rattle.std.proofs.Common.{◌≡◌, ◌+◌, take}
use Rattle.reader.specs.Scans.{Stands}
use Rattle.reader.proofs.place.Place.past.Given as goal

abbrev pub invariant-loop-e : goal.invariant-loop-e
invariant-loop-e g l =
    record {
      same : l.place.upload ≡ l.self.upload;
      ends : l.place.at ≡ l.self.at + l.e-index;
      stands : Stands g.E.Expected.takes l.self.upload.now l.self.at (take l.e-index l.expected) l.place.at;
    }
