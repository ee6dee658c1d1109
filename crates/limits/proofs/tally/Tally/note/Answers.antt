use Rattle.std.proofs.Common.{ap, ◌∙◌}
use Rattle.cursor.specs.Pieces.{item}
use Rattle.limits.proofs.Tallied.{tallied_more}
use Rattle.limits.proofs.tally.Tally.note.Goals as goal

pub returns : goal.returns
returns c sender is t =
    let e = c.count.ensures in
    tallied_more (item c.args.piece) c.beyond_at.result c.foreign_at.result (c.beyond_at.ensures is t.counted) (rw (← t.for_sender) c.foreign_at.ensures)
    (ap (λ s. s.now) e.sender)
    (e.counted is (record { records = t.counted.records; orders = t.counted.orders }))
    (e.beyond ∙ c.or-self.ensures) (e.foreign ∙ c.or-self-2.ensures) t
