use Rattle.limits.proofs.Firsts.{one_answer}
use Rattle.limits.proofs.laws.limits_stand.Goals as goal

pub returns-clause-beyond : goal.returns-clause-beyond
returns-clause-beyond c is = one_answer _ _ is

pub returns-clause-foreign : goal.returns-clause-foreign
returns-clause-foreign c sender is = one_answer _ _ is
