use Rattle.std.proofs.Common.{◌≡◌, ◌+◌, ◌-◌, ◌*◌, ◌^◌, drop, length}
use Rattle.std.specs.Str.Parse.{digits_value}
use Rattle.trials.proofs.draws.digits.Given as goal

-- the last i digits are written
abbrev pub invariant-loop-i : goal.invariant-loop-i
invariant-loop-i l = (length l.digits ≡ 20) × (l.rest * 10 ^ l.i + digits_value 10 (drop (20 - l.i) l.digits) ≡ l.fn.number)
