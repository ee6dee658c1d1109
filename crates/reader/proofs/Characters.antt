-- One character of a value, and many. Assumes nothing.
use Rattle.std.proofs.Common.{◌≡◌, ℕ, ◌+◌, ◌<◌, ◌≤◌, ◌≢◌, true, false, List, [], ◌∷◌, ◌++◌, length, get_or, sym, ap, ◌∙◌, subst, append_assoc, arith}
use Rattle.std.proofs.lemmas.Bool.Decides.{nat_tests}
use Rattle.grammar.specs.Bytes.{plain, lead, trail}
use Rattle.grammar.specs.Grammar.{Value, empty, one, pair}
use Rattle.reader.specs.Spans.{Spans, whole, half, none_after}
use Rattle.reader.specs.Scans.{IsCharacter, ValueBreaksAt, ValueBreaks}
use Rattle.reader.specs.declared.faults.CharacterFault.{CharacterFault}
use Rattle.reader.specs.declared.faults.CharacterFault.TheVariants.{Wrong, Ended}
use Rattle.reader.proofs.Spanning.{spans_none, spans_one, spans_join}

pub value-append : {v w : List ℕ} → Value v → Value w → Value (v ++ w)
value-append empty q = q
value-append (one h p) q = one h (value-append p q)
value-append (pair h k p) q = pair h k (value-append p q)

pub breaks_end : (u : List ℕ) (at : ℕ) → at ≡ length u → ValueBreaksAt u at at
breaks_end u at e = record { bytes = []; half = []; value = empty; halved = whole; spans = spans_none u at (omega arith); refuses = λ l. absurd (omega arith) }

none_here : (b : ℕ) → b ≢ 0x3c → false ≡ plain b → false ≡ lead b → none_after [] b ≡ false
none_here b n p l = grind (arith, nat_tests)

-- the byte at a place, and the place behind it
module _ (u : List ℕ) (at first behind : ℕ) (l : at < length u) (byte : get_or u at 0 ≡ first) (next : behind ≡ at + 1) where
  pub spans : Spans u at (first ∷ []) behind
  spans = subst (λ (b : ℕ). Spans u at (b ∷ []) behind) byte (subst (Spans u at (get_or u at 0 ∷ [])) (sym next) (spans_one u at l))

  pub plain_is : true ≡ plain first → IsCharacter u at behind
  plain_is h = record { bytes = first ∷ []; value = one (sym h) empty; some = omega arith; spans = spans }

  pub breaks_here : first ≢ 0x3c → false ≡ plain first → false ≡ lead first → ValueBreaksAt u at at
  breaks_here n p q = record { bytes = []; half = []; value = empty; halved = whole; spans = spans_none u at (omega arith); refuses = λ _. ap (none_after []) byte ∙ none_here first n p q }

  pub breaks_half : true ≡ lead first → (behind < length u → trail (get_or u behind 0) ≡ false) → ValueBreaksAt u at behind
  breaks_half h k = record { bytes = []; half = first ∷ []; value = empty; halved = half (sym h); spans = spans; refuses = k }

  pub pair_is : (second to : ℕ) → true ≡ lead first → Spans u behind (second ∷ []) to → true ≡ trail second → IsCharacter u at to
  pair_is second to h p k = record { bytes = first ∷ second ∷ []; value = pair (sym h) (sym k) empty; some = let e = p.ends in omega arith; spans = spans_join u at behind to (first ∷ []) (second ∷ []) spans p }

-- a value as far as it has been read
pub record Walked (u : List ℕ) (from at : ℕ) : Type 0 where
  pub within : at ≤ length u
  pub bytes : List ℕ
  pub value : Value bytes
  pub spans : Spans u from bytes at

pub walked_none : (u : List ℕ) (from : ℕ) → from ≤ length u → Walked u from from
walked_none u from h = record { within = h; bytes = []; value = empty; spans = spans_none u from h }

module _ (u : List ℕ) (from at : ℕ) (w : Walked u from at) where
  pub walked_more : (to : ℕ) → IsCharacter u at to → Walked u from to
  walked_more to c =
      record {
        within = c.spans.within;
        bytes = w.bytes ++ c.bytes;
        value = value-append w.value c.value;
        spans = spans_join u from at to w.bytes c.bytes w.spans c.spans;
      }

  pub walked_breaks : (k : ℕ) → ValueBreaksAt u at k → ValueBreaksAt u from k
  walked_breaks k b =
      record {
        bytes = w.bytes ++ b.bytes;
        half = b.half;
        value = value-append w.value b.value;
        halved = b.halved;
        spans =
            subst (λ (x : List ℕ). Spans u from x k) (sym (append_assoc w.bytes b.bytes b.half))
            (spans_join u from at k w.bytes (b.bytes ++ b.half) w.spans b.spans);
        refuses = b.refuses;
      }

  pub walked_fault : (f : CharacterFault) → ValueBreaks u at f → ValueBreaks u from f
  walked_fault (Wrong k) h = (h.0, walked_breaks k h.1)
  walked_fault (Ended k) h = (h.0, walked_breaks k h.1)
