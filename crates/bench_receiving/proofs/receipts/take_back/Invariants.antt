use Rattle.std.proofs.Common.{◌≡◌, take}
use Rattle.std.specs.List.{fold}
use Rattle.register.specs.Contents.{without}
use Rattle.bench_receiving.proofs.receipts.take_back.Given as goal

abbrev pub invariant-loop-key : goal.invariant-loop-key
invariant-loop-key g l = g.R.Register.contents l.register ≡ fold without (g.R.Register.contents l.initial.register) (take l.key-index l.keys)
