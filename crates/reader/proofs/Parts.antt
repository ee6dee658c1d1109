-- The parts that stand between places. Assumes nothing.
use Rattle.std.proofs.Common.{◌≡◌, ℕ, ◌+◌, ◌-◌, List, [], ◌∷◌, take, drop, codes, refl, sym, ap, subst, arith}
use Rattle.std.proofs.lemmas.Bool.{eqb-true}
use Rattle.grammar.specs.Grammar.{letters, opening, name, spelling}
use Rattle.grammar.specs.declared.states.Element.{Element}
use Rattle.grammar.specs.declared.states.Tag.{Tag}
use Rattle.grammar.specs.declared.states.Tag.TheVariants as tag
use Rattle.grammar.specs.declared.states.FieldId.{FieldId}
use Rattle.reader.specs.Spans.{Spans}
use Rattle.reader.specs.Scans.{fits, Each}
use Rattle.reader.specs.Readings.{opens, closed, structure_part, opening_classes, ReadsOpening}
use Rattle.reader.proofs.Spanning.{inner_is}

module _ (u : List ℕ) (at end : ℕ) where
  pub open_part : (e : Element) (t : Tag) → t ≡ tag.Open e → Spans u at (spelling t) end → opens (take (end - 1 - (at + 1)) (drop (at + 1) u)) at ≡ structure_part t at
  open_part e t q p =
      subst (λ (s : Tag). opens (take (end - 1 - (at + 1)) (drop (at + 1) u)) at ≡ structure_part s at) (sym q)
      (let r = subst (λ (s : Tag). Spans u at (spelling s) end) q p in
      let l = r.ends in
      ap (λ (v : List ℕ). opens v at) (inner_is u at end (at + 1) (end - 1) (codes "<") (name e) (codes ">") refl (omega arith) r))

  pub close_part : (e : Element) (t : Tag) → t ≡ tag.Close e → Spans u at (spelling t) end → closed (take (end - 1 - (at + 2)) (drop (at + 2) u)) at ≡ structure_part t at
  close_part e t q p =
      subst (λ (s : Tag). closed (take (end - 1 - (at + 2)) (drop (at + 2) u)) at ≡ structure_part s at) (sym q)
      (let r = subst (λ (s : Tag). Spans u at (spelling s) end) q p in
      let l = r.ends in
      ap (λ (v : List ℕ). closed v at) (inner_is u at end (at + 2) (end - 1) (codes "</") (name e) (codes ">") refl (omega arith) r))

  pub opening_reads : (v : List ℕ) → Each fits opening_classes v → Spans u at v end → ReadsOpening u at (opens (take (end - 1 - (at + 1)) (drop (at + 1) u)) at) end
  opening_reads [] h p = absurd h
  opening_reads (a ∷ []) h p = absurd h.1
  opening_reads (a ∷ b ∷ []) h p = absurd h.1.1
  opening_reads (a ∷ b ∷ c ∷ []) h p = absurd h.1.1.1
  opening_reads (a ∷ b ∷ c ∷ d ∷ []) h p = absurd h.1.1.1.1
  opening_reads (a ∷ b ∷ c ∷ d ∷ e ∷ []) h p =
      let i : FieldId = record { letter = b; tens = c; ones = d } in
      let spans : Spans u at (opening i) end = subst (λ (x : ℕ). Spans u at (x ∷ b ∷ c ∷ d ∷ 0x3e ∷ []) end) (eqb-true a 0x3c h.0) (subst (λ (x : ℕ). Spans u at (a ∷ b ∷ c ∷ d ∷ x ∷ []) end) (eqb-true e 0x3e h.1.1.1.1.0) p) in
      let l = p.ends in
      record {
        field = i;
        id = record { letter = h.1.0; tens = h.1.1.0; ones = h.1.1.1.0 };
        is = ap (λ (v : List ℕ). opens v at) (inner_is u at end (at + 1) (end - 1) (codes "<") (letters i) (codes ">") refl (omega arith) spans);
        spans = spans;
      }
  opening_reads (a ∷ b ∷ c ∷ d ∷ e ∷ f ∷ v) h p = absurd h.1.1.1.1.1
