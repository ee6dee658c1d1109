use Rattle.receiving.proofs.Exact.{exact, use_laws}
use Rattle.receiving.proofs.Filed.{filed_in_all}
use Rattle.receiving.proofs.Rising.{rising}
use Rattle.receiving.proofs.receive.receive.Goals as goal

pub returns-clause-exact : goal.returns-clause-exact
returns-clause-exact g c = exact _ _ _ c.answer.ensures.received

pub returns-clause-uses : goal.returns-clause-uses
returns-clause-uses g c = use_laws _ _ _ c.answer.ensures.received

pub returns-clause-filed : goal.returns-clause-filed
returns-clause-filed g c = filed_in_all (g.L.CodeLists.meaning c.args.lists.now) _ _ c.args.delivery c.answer.new.verdicts c.answer.new.faults c.answer.result c.answer.ensures.received

pub returns-clause-order : goal.returns-clause-order
returns-clause-order g c = rising _ c.answer.ensures.received
