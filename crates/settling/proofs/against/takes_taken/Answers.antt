use Rattle.std.proofs.Common.{rules, tests, sym}
use Rattle.std.proofs.lemmas.Iterator.{cases_from_any, YieldsList-from_slice}
use Rattle.settling.specs.Against.{refill_numbers}
use Rattle.settling.proofs.Trying.{Taken, tried}
use Rattle.settling.proofs.against.takes_taken.Goals as goal

pub returns : goal.returns
returns g c =
    let s = g.R.Register.contents c.args.register.now in
    let k = c.args.key.now in
    let e = c.args.entry.now in
    let o = c.in-Some.source in
    tried s k e o (sym c.in-Some.ensures) c.any.result (cases_from_any _ _ c.any.result (Taken s k e o) (λ n. ¬ Taken s k e o n) c.any.ensures.ran (YieldsList-from_slice refill_numbers cc) (λ x q h. search (rules, tests)) (λ x q h. search (rules, tests)))
