use Rattle.std.proofs.Common.{◌≡◌, drop}
use Rattle.values.specs.Visits.{rise_to}
use Rattle.values.proofs.visits.rise_to.Given as goal

abbrev pub invariant-loop-digit : goal.invariant-loop-digit
invariant-loop-digit l = rise_to l.fn.times 0 l.fn.digits ≡ rise_to l.fn.times l.last (drop l.digit-index l.fn.digits)
