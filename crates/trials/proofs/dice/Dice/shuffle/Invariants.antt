use Rattle.std.specs.List.Sorted.{IsPermutation}
use Rattle.trials.proofs.dice.Dice.shuffle.Given as goal

abbrev pub invariant-loop-i : goal.invariant-loop-i
invariant-loop-i l = IsPermutation l.initial.numbers l.numbers
