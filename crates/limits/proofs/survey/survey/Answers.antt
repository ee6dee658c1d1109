use Rattle.std.proofs.Common.{List, length, sym, ap, ◌∙◌, subst, arith}
use Rattle.grammar.specs.Grammar.{Lawful}
use Rattle.grammar.specs.Items.{Item}
use Rattle.cursor.proofs.Left.{all_taken}
use Rattle.limits.specs.Tallies.{Tallied}
use Rattle.limits.proofs.Places.{piece_within}
use Rattle.limits.proofs.Tallied.{few}
use Rattle.limits.proofs.survey.survey.Goals as goal

pub note-requires : goal.note-requires
note-requires c =
    let e = ap (λ k. length k.upload.now) c.into_iter-piece-iterator.ensures.into_iter_gives ∙ ap length c.begin-piece-items.ensures.upload in
    let within = piece_within c.into_iter-piece-iterator.result c.loop-piece.piece-iterator c.next.new.self c.loop-piece.yielded c.in-Some.piece c.loop-piece.yielded_by c.in-Some.ensures.steps in
    let counted = few c.loop-piece.invariant in
    record { records = omega arith; orders = omega arith; place = omega arith }

pub returns : goal.returns
returns c =
    let b = c.begin-piece-items.ensures in
    let s = c.into_iter-piece-iterator.ensures.into_iter_gives in
    let read = λ (l : Lawful c.args.upload.bytes.now).
    all_taken c.args.upload.bytes.now c.into_iter-piece-iterator.result c.loop-piece.piece-iterator c.next.new.self c.loop-piece.yielded
    (ap (λ k. k.upload.now) s ∙ b.upload) (ap (λ k. k.at) s ∙ b.at) (ap (λ k. k.state) s ∙ b.state) c.loop-piece.yielded_by c.in-None.ensures.steps l in
    let tallied = λ (l : Lawful c.args.upload.bytes.now). subst (λ (is : List Item). Tallied c.args.sender.now is c.loop-piece.tally) (sym (read l)) c.loop-piece.invariant in
    record { one_list = λ l m. read l ∙ sym (read m); records = λ l. (tallied l).counted.records; beyond = λ l. (tallied l).beyond; foreign = λ l. (tallied l).foreign }
