use Rattle.std.proofs.Common.{ap, sym, ◌∙◌, arith}
use Rattle.grammar.specs.Bytes.{trail}
use Rattle.reader.proofs.Characters.{spans, plain_is, pair_is, breaks_end, breaks_here, breaks_half}
use Rattle.reader.proofs.place.Place.past_character.Goals as goal

pub returns-in_default-clause-breaks : goal.returns-in_default-clause-breaks
returns-in_default-clause-breaks c = (c.in_default.ensures.end, breaks_end _ _ c.in_default.ensures.end)

pub returns-then-is_plain-clause-is : goal.returns-then-is_plain-clause-is
returns-then-is_plain-clause-is c =
    let h = c.in-Some.ensures in
    plain_is _ _ _ _ h.within h.byte h.behind c.if-is_plain.ensures

pub returns-then-not-is_lead-clause-breaks : goal.returns-then-not-is_lead-clause-breaks
returns-then-not-is_lead-clause-breaks c =
    let h = c.in-Some.ensures in
    (h.within, breaks_here _ _ _ _ h.within h.byte h.behind c.if-first-eq60.false c.if-is_plain.ensures c.if-not-is_lead.ensures)

pub returns-in-Some-byte-clause-is : goal.returns-in-Some-byte-clause-is
returns-in-Some-byte-clause-is c =
    let h = c.in-Some.ensures in
    let k = rw h.upload at c.in-Some-byte.ensures in
    pair_is _ _ _ _ h.within h.byte h.behind _ _ c.if-not-is_lead.ensures (spans _ _ _ _ k.within k.byte k.behind) c.if-is_trail.ensures

pub returns-in-Some-2-clause-breaks : goal.returns-in-Some-2-clause-breaks
returns-in-Some-2-clause-breaks c =
    let h = c.in-Some.ensures in
    let k = rw h.upload at c.in-Some-byte.ensures in
    (k.within, breaks_half _ _ _ _ h.within h.byte h.behind c.if-not-is_lead.ensures (λ _. ap trail k.byte ∙ sym c.if-is_trail.ensures))

pub returns-in-None-clause-breaks : goal.returns-in-None-clause-breaks
returns-in-None-clause-breaks c =
    let h = c.in-Some.ensures in
    let k = rw h.upload at c.in-None.ensures in
    (k.end, breaks_half _ _ _ _ h.within h.byte h.behind c.if-not-is_lead.ensures (λ l. absurd (omega arith)))
