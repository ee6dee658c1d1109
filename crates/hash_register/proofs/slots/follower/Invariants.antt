use Rattle.std.proofs.Common.{ℕ, ◌<◌}
use Rattle.hash_register.specs.Slots.{Follows}
use Rattle.hash_register.proofs.slots.follower.Given as goal

abbrev pub invariant-loop-i : goal.invariant-loop-i
invariant-loop-i l = (j : ℕ) → j < l.i → ¬ Follows l.homes l.slots l.gap j
