use Rattle.std.proofs.Common.{◌≡◌, ◌^◌, ◌<◌, take}
use Rattle.commands.specs.Numbers.{value_of}
use Rattle.commands.proofs.numbers.number.Given as goal

abbrev pub invariant-loop-b : goal.invariant-loop-b
invariant-loop-b l = (l.number ≡ value_of (take l.b-index l.word)) × (l.number < 10 ^ l.b-index)
