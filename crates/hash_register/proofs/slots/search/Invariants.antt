use Rattle.std.proofs.Common.{◌≡◌, ℕ, ◌<◌, ◌≤◌, true}
use Rattle.hash_register.specs.Slots.{slot, is_passed}
use Rattle.hash_register.proofs.slots.search.Given as goal

abbrev pub invariant-loop-i : goal.invariant-loop-i
invariant-loop-i l = (j : ℕ) → l.from ≤ j → j < l.i → is_passed l.key (slot l.slots j) ≡ true
