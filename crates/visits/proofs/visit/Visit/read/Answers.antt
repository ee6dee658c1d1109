use Rattle.std.proofs.Common.{rules, ◌≡◌, length, arith, sym, ap, ◌∙◌, refl}
use Rattle.visits.specs.Visits.{written_visit}
use Rattle.visits.specs.declared.visit.Visit.{Visit}
use Rattle.visits.specs.declared.visit.Visit.TheVariants.{On, At}
use Rattle.calendar.proofs.Exact.{no_date, no_stamp, day_length, moment_length}
use Rattle.visits.proofs.visit.Visit.read.Goals as goal

pub returns-in_err-day-in-7-clause-value : goal.returns-in_err-day-in-7-clause-value
returns-in_err-day-in-7-clause-value c =
    let no = no_stamp c.args.text.now (λ e. omega (arith, e, c.in-7.is)) in
    search (rules, no)

pub returns-in_err-day-in-7-clause-exact : goal.returns-in_err-day-in-7-clause-exact
returns-in_err-day-in-7-clause-exact c = rw c.from_residual.ensures none
  where
    none : (v : Visit) → written_visit v ≡ c.args.text.now → ⊥
    none (On d) e = c.in_err-day-in-7.ensures.exact d e
    none (At m) e = omega (arith, moment_length m, ap length e, c.in-7.is)

pub returns-in-13-clause-value : goal.returns-in-13-clause-value
returns-in-13-clause-value c =
    let no = no_date c.args.text.now (λ e. omega (arith, e, c.in-13.is)) in
    search (rules, no)

pub returns-in-13-clause-exact : goal.returns-in-13-clause-exact
returns-in-13-clause-exact c = search (rules, day_length)

pub returns-in_default-clause-value : goal.returns-in_default-clause-value
returns-in_default-clause-value c =
    let date = no_date c.args.text.now (λ e. omega (arith, e, c.in_default)) in
    let stamp = no_stamp c.args.text.now (λ e. omega (arith, e, c.in_default)) in
    rw (date, stamp) refl

pub returns-in_default-clause-exact : goal.returns-in_default-clause-exact
returns-in_default-clause-exact c = none
  where
    seven : length c.args.text.now ≡ 7 → ⊥
    seven n = omega (arith, n, c.in_default)

    thirteen : length c.args.text.now ≡ 13 → ⊥
    thirteen n = omega (arith, n, c.in_default)

    none : (v : Visit) → written_visit v ≡ c.args.text.now → ⊥
    none (On d) e = seven (sym (ap length e) ∙ day_length d)
    none (At m) e = thirteen (sym (ap length e) ∙ moment_length m)
