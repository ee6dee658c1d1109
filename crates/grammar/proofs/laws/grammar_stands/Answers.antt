use Rattle.grammar.proofs.Runs.{going_on, ending}
use Rattle.grammar.proofs.Walks.{leads_run}
use Rattle.grammar.proofs.Tested.{rest_from_test, test_from_rest, lawful_from_test, test_from_lawful}
use Rattle.grammar.proofs.laws.grammar_stands.Goals as goal

pub returns : goal.returns
returns c =
    record {
      goes = λ u s p w. going_on u s (leads_run u s p) w;
      state = λ u s n p q. let e = leads_run u s p in let f = leads_run u n q in cc;
      ends = ending;
      test = ((λ s w. (rest_from_test s w, test_from_rest s w)), (λ bs. (lawful_from_test bs, test_from_lawful bs)));
    }
