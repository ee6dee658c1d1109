use Rattle.std.proofs.Common.{◌≡◌, ◌<◌, ◌-◌, length, slice_set, true, None, is_some}
use Rattle.std.specs.List.Sorted.{IsPermutation}
use Rattle.hash_register.specs.Slots.{slot, held, IsReached}
use Rattle.hash_register.proofs.slots.vacate.Given as goal

abbrev pub invariant-loop-i : goal.invariant-loop-i
invariant-loop-i l = record {
  inside : l.gap < length l.slots;
  filled : is_some (slot l.slots l.gap) ≡ true;
  reached : IsReached l.homes l.slots;
  others : IsPermutation (held (slice_set l.slots l.gap None)) (held (slice_set l.initial.slots l.initial.gap None));
}

abbrev pub decreases-loop-i : goal.decreases-loop-i
decreases-loop-i l = length l.slots - l.gap
