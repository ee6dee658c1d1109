use Rattle.std.proofs.Common.{◌∙◌, ap}
use Rattle.calendar.specs.Days.{date_of}
use Rattle.settling.specs.Against.{is_unmatched}
use Rattle.settling.proofs.Room.{matched, settled}
use Rattle.settling.proofs.settle.settle.Goals as goal

pub carry_out-requires-clause-matched : goal.carry_out-requires-clause-matched
carry_out-requires-clause-matched g c =
    let q = c.args.filing.now in
    ap (is_unmatched q.deed) c.look_up-under.ensures ∙ matched (g.R.Register.contents c.args.register.now) (date_of c.args.today) q c.in-None.ensures

pub returns-in-None : goal.returns-in-None
returns-in-None g c =
    settled (g.R.Register.contents c.args.register.now) (date_of c.args.today) c.args.filing.now c.in-None.ensures _ _ c.carry_out.ensures.answer c.carry_out.ensures.after
