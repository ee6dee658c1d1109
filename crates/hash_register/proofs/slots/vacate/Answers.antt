use Rattle.std.proofs.lemmas.List.Sorted.{IsPermutation-cons, IsPermutation-trans}
use Rattle.hash_register.proofs.Held.{parted_here}
use Rattle.hash_register.proofs.Moved.{moved}
use Rattle.hash_register.proofs.Reached.{emptied_reached}
use Rattle.hash_register.proofs.slots.vacate.Goals as goal

pub loop-i-preserved : goal.loop-i-preserved
loop-i-preserved c =
    let m = moved c.args.homes c.loop-i.slots c.loop-i.gap c.in-Some.i c.loop-i.invariant.reached c.loop-i.invariant.inside c.in-Some.ensures in
    record {
      inside = m.inside;
      filled = m.filled;
      reached = m.reached;
      others = IsPermutation-trans _ _ _ m.others c.loop-i.invariant.others;
    }

pub returns : goal.returns
returns c = record {
  reached = emptied_reached c.loop-i.slots c.loop-i.gap c.args.homes c.loop-i.invariant.reached c.loop-i.invariant.inside c.in_default.ensures;
  others = λ k e is. IsPermutation-trans _ _ _ (IsPermutation-cons (k, e) _ _ c.loop-i.invariant.others) (parted_here c.args.slots.now c.args.gap (k, e) c.requires.gap is);
}
