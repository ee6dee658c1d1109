use Rattle.std.proofs.Common.{inl, inr, arith}
use Rattle.std.proofs.lemmas.Bool.{cases_lt}
use Rattle.hash_register.proofs.Reached.{past_empty}
use Rattle.hash_register.proofs.slots.follower.Goals as goal

pub returns-in-None : goal.returns-in-None
returns-in-None c = λ j. elim (cases_lt j c.loop-i.i) [
  | inl before ↦ c.loop-i.invariant j before
  | inr past ↦ past_empty c.args.slots.now c.args.homes c.args.gap c.loop-i.i j c.requires.reached c.in-None.is (omega arith) past
]
