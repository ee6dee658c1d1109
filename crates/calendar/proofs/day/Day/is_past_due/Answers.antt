use Rattle.std.proofs.Common.{◌∙◌, ap}
use Rattle.calendar.specs.Days.{date_of}
use Rattle.calendar.specs.Time.{is_before}
use Rattle.calendar.proofs.Chronology.{lt_days}
use Rattle.calendar.proofs.day.Day.is_past_due.Goals as goal

pub returns : goal.returns
returns c = c.lt.ensures ∙ lt_days c.due.result c.args.self ∙ ap (λ d. is_before d (date_of c.args.self)) c.due.ensures.value
