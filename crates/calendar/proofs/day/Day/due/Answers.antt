use Rattle.std.proofs.Common.{sym, ◌∙◌, ap, ap₂, subst}
use Rattle.calendar.specs.Days.{date_of}
use Rattle.calendar.specs.Due.{month_after, last_of, due_of, DueLaw}
use Rattle.calendar.proofs.Dues.{due_law, term, samples}
use Rattle.calendar.proofs.day.Day.due.Goals as goal

pub returns : goal.returns
unfolding due_of
returns c =
    let v = c.args.self in
    let made = c.last_day.ensures ∙ ap last_of (c.next.ensures ∙ ap₂ month_after c.from.ensures.0 c.from.ensures.1) in
    record { value = made; law = subst (DueLaw (date_of v)) (sym made) (due_law (date_of v) v.ok); term = term; samples = samples }
