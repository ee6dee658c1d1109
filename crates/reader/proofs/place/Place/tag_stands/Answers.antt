use Rattle.reader.proofs.Texts.{text_found}
use Rattle.reader.proofs.place.Place.tag_stands.Goals as goal

pub returns : goal.returns
returns c =
    let h = rw c.text.ensures at c.past.ensures in
    rw c.is_ok.ensures.value (text_found _ _ (λ p. p.at) _ _ c.past.result h.ends h.stands h.missing)
