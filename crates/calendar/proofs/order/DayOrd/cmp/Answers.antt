use Rattle.std.proofs.Common.{rules}
use Rattle.std.specs.Cmp.Rules.{comparing}
use Rattle.std.proofs.lemmas.Cmp.{ranked}
use Rattle.calendar.specs.Days.{date_of}
use Rattle.calendar.specs.Time.{ByParts}
use Rattle.calendar.proofs.Chronology.{parts_in_time, order_of_time}
use Rattle.calendar.proofs.order.DayOrd.cmp.Goals as goal

pub returns-clause-time : goal.returns-clause-time
returns-clause-time c =
    let a = c.args.self.now in
    let b = c.args.other.now in
    let parts : ByParts (date_of a) (date_of b) c.then-2.result = record {
      years = c.cmp.result;
      months = c.cmp-2.result;
      days = c.cmp-3.result;
      by_year = ranked _ _ _ c.cmp.ensures;
      by_month = ranked _ _ _ c.cmp-2.ensures;
      by_day = ranked _ _ _ c.cmp-3.ensures;
      first = cc;
    } in
    parts_in_time (date_of a) (date_of b) a.ok b.ok _ parts

pub returns-clause-total : goal.returns-clause-total
returns-clause-total c = search (comparing, rules)

pub returns-clause-law : goal.returns-clause-law
returns-clause-law c = order_of_time
