-- What the functions of one token say, as readings. Assumes nothing.
use Rattle.std.proofs.Common.{◌≡◌, ℕ, ◌-◌, Bool, List, ◌++◌, take, drop, codes, sym, ap, ◌∙◌, subst}
use Rattle.grammar.specs.Ahead.{closes}
use Rattle.grammar.specs.Grammar.{letters, closing, spelling}
use Rattle.grammar.specs.Tags.{behind, wanted}
use Rattle.grammar.specs.declared.states.Segment.{Segment}
use Rattle.grammar.specs.declared.states.State.{State}
use Rattle.grammar.specs.declared.states.State.TheVariants.{Within}
use Rattle.grammar.specs.declared.states.Tag.{Tag}
use Rattle.grammar.specs.declared.states.FieldId.{FieldId}
use Rattle.grammar.specs.declared.states.Wanted.{Wanted}
use Rattle.grammar.specs.declared.states.Wanted.TheVariants as want
use Rattle.grammar.proofs.Wants.{wanted_turn, wanted_field}
use Rattle.reader.specs.Spans.{Spans, Departs}
use Rattle.reader.specs.Scans.{FaultAt, TextMissing, Stands, Missing, SkipsWhite, ValueEnds, ValueBreaks}
use Rattle.reader.specs.Readings.{Part, closed, holds, ReadsStructure, ReadsOpening, OpeningMissing, structure, opening_tag, value, closing_tag, Reads, Fails, in_structure, in_opening, behind_all, in_value, at_slash, in_id, at_end, Breaks}
use Rattle.reader.specs.Refusals.{character_to_tag}
use Rattle.reader.specs.declared.stations.Station.{Station}
use Rattle.reader.specs.declared.stations.Station.TheVariants.{Between, Opened, Filled}
use Rattle.reader.specs.declared.faults.Cause.{Cause}
use Rattle.reader.specs.declared.faults.Cause.TheVariants as cause
use Rattle.reader.specs.declared.faults.CharacterFault.{CharacterFault}
use Rattle.reader.specs.declared.faults.CharacterFault.TheVariants as character
use Rattle.reader.specs.declared.faults.TagFault.{TagFault}
use Rattle.reader.specs.declared.faults.TagFault.TheVariants.{Wrong, Ended}
use Rattle.reader.proofs.Spanning.{spans_at, spans_join}
use Rattle.reader.proofs.Texts.{same, text_stands, text_missing}

module _ (u : List ℕ) (at : ℕ) (s : Station) where
  -- a fault in a text, as one in the station
  pub missing_breaks : (from : ℕ) (t : List ℕ) (c : Cause) → ((k : ℕ) → Departs u from t k → Fails u at s c k) → (f : TagFault) → TextMissing u from t c f → Breaks u at s f
  missing_breaks from t c fails (Wrong d k) (e, l, h) = (l, subst (λ (x : Cause). Fails u at s x k) (sym e) (fails k h))
  missing_breaks from t c fails (Ended k) (l, h) = (l, (c, fails k h))

-- what a state wants, once it is known whether a closing tag comes
module _ (u : List ℕ) (at : ℕ) (s : State) (b : Bool) (comes : b ≡ closes (drop at u)) where
  wants : (w : Wanted) → w ≡ wanted s b → wanted s (closes (drop at u)) ≡ w
  wants w e = sym (e ∙ ap (wanted s) comes)

  -- a tag of the structure
  module _ (t : Tag) (e : want.Structure t ≡ wanted s b) where
    pub structure_reads : (x : Part) (to : ℕ) → ReadsStructure u at t x to → Reads u at (Between s) x to
    structure_reads x to h = (Between (behind t), structure (wanted_turn s (closes (drop at u)) t (wants _ e)) h)

    pub structure_breaks : (f : TagFault) → TextMissing u at (spelling t) cause.Elsewhere f → Breaks u at (Between s) f
    structure_breaks = missing_breaks u at (Between s) at (spelling t) cause.Elsewhere (λ k. in_structure (wants _ e))

  -- the opening tag of a field
  module _ (g : Segment) (e : want.Field g ≡ wanted s b) where
    pub opening_tag_reads : (x : Part) (to : ℕ) → ReadsOpening u at x to → Reads u at (Between s) x to
    opening_tag_reads x to h =
        subst (λ (n : State). Reads u at (Between n) x to) (sym (wanted_field s (closes (drop at u)) g (wants _ e))) (Opened g h.field, opening_tag h)

    pub opening_tag_breaks : (f : TagFault) → OpeningMissing u at f → Breaks u at (Between s) f
    opening_tag_breaks (Wrong c k) (q, l, h) = (l, subst (λ (x : Cause). Fails u at (Between s) x k) (sym q) (in_opening (wants _ e) h))
    opening_tag_breaks (Ended k) (l, h) = (l, (cause.Elsewhere, in_opening (wants _ e) h))

  -- nothing
  pub nothing_breaks : want.Nothing ≡ wanted s b → (f : TagFault) → FaultAt u at cause.Elsewhere f → Breaks u at (Between s) f
  nothing_breaks e (Wrong c k) (q, p, l) = (l, subst (λ (x : Cause). Fails u at (Between s) x k) (sym q) (subst (Fails u at (Between s) cause.Elsewhere) (sym p) (behind_all (wants _ e))))
  nothing_breaks e (Ended k) (p, l) = (l, (cause.Elsewhere, subst (Fails u at (Between s) cause.Elsewhere) (sym p) (behind_all (wants _ e))))

module _ (u : List ℕ) (at : ℕ) (g : Segment) (i : FieldId) where
  -- the value of a field
  pub value_reads : (to : ℕ) → ValueEnds u at to → Reads u at (Opened g i) (holds (take (to - at) (drop at u)) at) to
  value_reads to h =
      subst (λ (v : List ℕ). Reads u at (Opened g i) (holds v at) to) (sym (spans_at u at to h.bytes h.spans))
      (Filled g i, value h.value h.spans h.within h.bracket)

  pub value_breaks : (f : CharacterFault) → ValueBreaks u at f → Breaks u at (Opened g i) (character_to_tag f)
  value_breaks (character.Wrong k) (l, h) = (l, in_value h)
  value_breaks (character.Ended k) (l, h) = (l, (cause.Value, in_value h))

  -- the closing tag of a field
  pub name_breaks : (f : TagFault) → Missing same u at (codes "</") cause.Elsewhere f → Breaks u at (Filled g i) f
  name_breaks f h = missing_breaks u at (Filled g i) at (codes "</") cause.Elsewhere (λ k. at_slash) f (text_missing u at _ _ f h)

  module _ (m : ℕ) (slash : Stands same u at (codes "</") m) where
    pub id_breaks : (f : TagFault) → Missing same u m (letters i) cause.ClosingId f → Breaks u at (Filled g i) f
    id_breaks f h = missing_breaks u at (Filled g i) m (letters i) cause.ClosingId (λ k. in_id (text_stands u at _ m slash)) f (text_missing u m _ _ f h)

    module _ (e : ℕ) (id : Stands same u m (letters i) e) where
      front : Spans u at (codes "</" ++ letters i) e
      front = spans_join u at m e (codes "</") (letters i) (text_stands u at _ m slash) (text_stands u m _ e id)

      pub end_breaks : (f : TagFault) → Missing same u e (codes ">") cause.Elsewhere f → Breaks u at (Filled g i) f
      end_breaks f h = missing_breaks u at (Filled g i) e (codes ">") cause.Elsewhere (λ k. at_end front) f (text_missing u e _ _ f h)

      pub closing_reads : (k to : ℕ) → Stands same u e (codes ">") k → SkipsWhite u k to → Reads u at (Filled g i) (closed (take (e - m) (drop m u)) at) to
      closing_reads k to p w =
          let spans = spans_join u at e k (codes "</" ++ letters i) (codes ">") front (text_stands u e _ k p) in
          subst (λ (v : List ℕ). Reads u at (Filled g i) (closed v at) to) (sym (spans_at u m e (letters i) (text_stands u m _ e id)))
          (Between (Within g), closing_tag w.skipped w.white (spans_join u at k to (closing i) w.skipped spans w.spans) w.settles)
