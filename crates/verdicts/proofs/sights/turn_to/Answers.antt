use Rattle.std.proofs.Common.{if◌then◌else◌, ◌∙◌, ap}
use Rattle.grammar.specs.declared.states.Segment.TheVariants.{Order}
use Rattle.records.specs.Reading.{part_of}
use Rattle.cells.specs.Cells.{stands_in}
use Rattle.cells.specs.Filled.{value_in}
use Rattle.verdicts.proofs.Sighting.{same_view, turned_value, filled_value}
use Rattle.verdicts.proofs.sights.turn_to.Goals as goal

pub returns-clause-sight : goal.returns-clause-sight
returns-clause-sight g c s x before a =
    same_view _ _ (ap (λ v. v.today) a.sees) (ap (λ v. v.listed) a.sees)
    (λ f. filled_value (part_of c.args.order.now) Order _ _ f c.requires.order (c.fill.ensures.values c.requires.upload f)
    ∙ ap (λ v. if stands_in f Order then value_in Order f (part_of c.args.order.now).fields else v) (ap (λ v. v.value f) a.sees)
    ∙ turned_value x a.last _ f)
    (λ n. ap (λ v. v.stood n) a.sees) (ap (λ v. v.ordered) a.sees)
