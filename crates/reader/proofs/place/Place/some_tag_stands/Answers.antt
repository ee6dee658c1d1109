use Rattle.std.proofs.Common.{get_or, rules}
use Rattle.std.proofs.lemmas.Bool.{MatchBool-at_true}
use Rattle.std.proofs.lemmas.Iterator.{cases_from_any, YieldsList-from_slice}
use Rattle.std.proofs.lemmas.Iterator.Search.{true_from_Any}
use Rattle.grammar.specs.declared.states.Element.TheVariants.{Recs}
use Rattle.grammar.specs.declared.states.Tag.TheVariants.{Open}
use Rattle.reader.specs.Places.{TagStands}
use Rattle.reader.specs.declared.misplaced.TheConstants.{TAGS}
use Rattle.reader.proofs.Twelve.{among}
use Rattle.reader.proofs.place.Place.some_tag_stands.Goals as goal

pub returns : goal.returns
returns c =
    let stands = TagStands c.args.self.upload.now c.args.self.at in
    let by_tag = cases_from_any _ _ _ stands (λ t. ¬ stands t) c.any.ensures.ran (YieldsList-from_slice TAGS cc) (λ x q k. search rules) (λ x q k. search rules) in (
      (λ e. let h = MatchBool-at_true _ _ e by_tag in (get_or TAGS h.0 (Open Recs), h.2 (Open Recs))),
      (λ s. true_from_Any stands (λ t. ¬ stands t) _ TAGS (λ t p n. n p) by_tag s.0 (among s.0) s.1),
    )
