use Rattle.std.proofs.Common.{true, refl}
use Rattle.std.proofs.lemmas.Grind.{put_two}
use Rattle.commands.specs.LookUpLines.{numbers, refill_text}
use Rattle.commands.proofs.Shown.{piece_more}
use Rattle.commands.proofs.look_up_line.RefillsTextDisplay.fmt.Goals as goal

pub loop-refill-preserved : goal.loop-refill-preserved
loop-refill-preserved g c = λ plain.
    let so_far = c.loop-refill.invariant plain in
    put_two _ _ _ _ _ _ _ so_far (c.in_ok-write.ensures.writes so_far.plain (refl {a = true}))
    (piece_more (refill_text c.args.self.now.0) numbers c.loop-refill.refill-index c.loop-refill-test.true)
