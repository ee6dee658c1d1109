use Rattle.std.proofs.Common.{rules, ◌||◌, ◌∙◌, ap, arith}
use Rattle.marks.specs.Numbers.{number_in}
use Rattle.fields.specs.declared.field.Field.TheVariants.{D03}
use Rattle.verdicts.proofs.Sighting.{same_view, stood_more, numbered, unnumbered}
use Rattle.verdicts.proofs.sights.pass.Goals as goal

pub returns-in-Some-clause-sight : goal.returns-in-Some-clause-sight
returns-in-Some-clause-sight g c s x before o e = record {
  last = o.fields;
  sees = same_view _ _ (ap (λ v. v.today) e) (ap (λ v. v.listed) e) (λ f. ap (λ v. v.value f) e)
      (λ n. stood_more before o n _ _ (ap (λ v. v.stood n) e) (c.insert.ensures.members n ∙ ap (λ b. number_in c.args.seen.now.numbers n || b) (numbered o c.value.result.now c.from.result n (c.value.ensures ∙ ap (λ v. v.value D03) e) (search rules) (search rules))))
      (ap (λ v. v.ordered) e);
}

pub returns-in_default-clause-sight : goal.returns-in_default-clause-sight
returns-in_default-clause-sight g c s x before o e = record {
  last = o.fields;
  sees = same_view _ _ (ap (λ v. v.today) e) (ap (λ v. v.listed) e) (λ f. ap (λ v. v.value f) e)
      (λ n. stood_more before o n _ _ (ap (λ v. v.stood n) e) (grind (arith) ∙ ap (λ b. number_in c.args.seen.now.numbers n || b) (unnumbered o c.value.result.now n (c.value.ensures ∙ ap (λ v. v.value D03) e) (search rules))))
      (ap (λ v. v.ordered) e);
}
