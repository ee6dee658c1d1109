-- From where a token breaks off to the law. Assumes nothing.
use Rattle.std.proofs.Common.{◌≡◌, ℕ, zero, suc, ◌+◌, ◌<◌, List, [], ◌∷◌, ◌++◌, length, get_or, take, drop, codes, refl, sym, ap, ◌∙◌, subst, append_assoc, append-nil, length-append, arith}
use Rattle.std.proofs.lemmas.Bool.{true≢false}
use Rattle.std.proofs.lemmas.List.{take_more, take-append-drop, take_at}
use Rattle.std.proofs.Math.Seq.{take-length}
use Rattle.grammar.specs.Grammar.{declaration, letters, opening, Lawful, Begins}
use Rattle.grammar.specs.Threads.{value, steps, run, start, ended, is_lawful}
use Rattle.grammar.specs.declared.states.Segment.{Segment}
use Rattle.grammar.specs.declared.states.FieldId.{FieldId}
use Rattle.grammar.proofs.Runs.{run_append, begins, begins_not}
use Rattle.grammar.proofs.Walks.{lead_on, repeat_on}
use Rattle.grammar.proofs.Tested.{test_from_lawful}
use Rattle.reader.specs.Spans.{Spans, Departs, Halved, half}
use Rattle.reader.specs.Scans.{ValueBreaksAt}
use Rattle.reader.specs.Readings.{Fails, in_structure, in_opening, behind_all, in_value, at_slash, in_id, at_end}
use Rattle.reader.specs.Moves.{InField, Reached, StandsAt}
use Rattle.reader.specs.Laws.{Declared, FirstWrong, Inside, InClosingId, Caused, Ends}
use Rattle.reader.specs.declared.stations.Station.{Station}
use Rattle.reader.specs.declared.stations.Station.TheVariants.{Between, Opened, Filled}
use Rattle.reader.specs.declared.faults.Cause.{Cause}
use Rattle.reader.specs.declared.faults.Cause.TheVariants as cause
use Rattle.reader.proofs.Spanning.{spans_join}
use Rattle.reader.proofs.Halting.{kind, Halts, in_field_run, fails_halts}

-- ---- the first wrong byte

module _ (u : List ℕ) (k : ℕ) (c : Cause) (h : Halts u k c) where
  pub run_dies : k < length u → run start (take (k + 1) u) ≡ []
  run_dies l = ap (run start) (take_more u k 0 l) ∙ run_append start (take k u) (get_or u k 0 ∷ []) ∙ ap (steps (get_or u k 0)) h.is ∙ h.dies l

  pub first_wrong : FirstWrong u k
  first_wrong = record { within = h.within; begins = begins (take k u) h.first h.others h.is; breaks = λ l. begins_not (take (k + 1) u) (run_dies l) }

  module _ (e : k ≡ length u) where
    all : take k u ≡ u
    all = ap (λ n. take n u) e ∙ take-length u

    ends_begun : Begins u
    ends_begun = subst Begins all first_wrong.begins

    ends_unlawful : ¬ Lawful u
    unfolding is_lawful
    ends_unlawful l = true≢false (sym (test_from_lawful u l) ∙ ap ended (ap (run start) (sym all) ∙ h.is) ∙ h.open_end e)

    pub ends : Declared u → Ends u k
    ends d = record { declared = d; whole = e; begins = ends_begun; unlawful = ends_unlawful }

-- ---- the declaration

field_declared : (w : List ℕ) (g : Segment) (i : FieldId) (v q : List ℕ) → InField w g i v q → Declared w
field_declared w g i v q h =
    (h.leads.rest ++ (opening i ++ (v ++ q)), h.is ∙ ap (λ (x : List ℕ). x ++ (opening i ++ (v ++ q))) h.leads.declared ∙ append_assoc declaration h.leads.rest (opening i ++ (v ++ q)))

reached_declared : (w : List ℕ) (s : Station) → Reached w s → Declared w
reached_declared w (Between s) h = (h.rest, h.declared)
reached_declared w (Opened g i) h = field_declared w g i [] [] h
reached_declared w (Filled g i) (v, h) = field_declared w g i v [] h

pub declared_on : (u : List ℕ) (k : ℕ) → Declared (take k u) → Declared u
declared_on u k (r, e) = (r ++ drop k u, sym (take-append-drop k u) ∙ ap (λ (x : List ℕ). x ++ drop k u) e ∙ append_assoc declaration r (drop k u))

pub stands_declared : (u : List ℕ) (at : ℕ) (s : Station) → StandsAt u at s → Declared u
stands_declared u at s h = declared_on u at (reached_declared (take at u) s h.reached)

-- ---- the cause

pub inside_kind : (w : List ℕ) → Inside w → kind (run start w) ≡ cause.Value
inside_kind w n = ap kind (in_field_run w n.segment n.id n.value n.half n.field) ∙ go n.half n.halved
  where
    go : (q : List ℕ) → Halved q → kind (run (value n.segment n.id ∷ []) q) ≡ cause.Value
    go [] h = refl
    go (x ∷ []) (half l) = ap kind (lead_on n.segment n.id x l)
    go (x ∷ y ∷ q) h = elim h [ ]

pub in_closing_kind : (w : List ℕ) → InClosingId w → kind (run start w) ≡ cause.ClosingId
in_closing_kind w n = ap kind (in_field_run w n.segment n.id n.value (codes "</" ++ take n.read (letters n.id)) n.field) ∙ go n.read n.three
  where
    go : (k : ℕ) → k < 3 → kind (run (value n.segment n.id ∷ []) (codes "</" ++ take k (letters n.id))) ≡ cause.ClosingId
    go zero l = refl
    go (suc zero) l = ap kind (repeat_on n.id.letter (n.id.tens ∷ n.id.ones ∷ []) n.segment)
    go (suc (suc zero)) l =
        ap (λ ts. kind (steps n.id.tens ts)) (repeat_on n.id.letter (n.id.tens ∷ n.id.ones ∷ []) n.segment)
        ∙ ap kind (repeat_on n.id.tens (n.id.ones ∷ []) n.segment)
    go (suc (suc (suc k))) l = absurd (omega arith)

elsewhere : (u : List ℕ) (k : ℕ) → Halts u k cause.Elsewhere → Caused (take k u) cause.Elsewhere
elsewhere u k h =
    let e = ap kind h.is ∙ h.cause in
    ((λ n. other (sym (inside_kind (take k u) n) ∙ e)), (λ n. another (sym (in_closing_kind (take k u) n) ∙ e)))
  where
    other : cause.Value ≡ cause.Elsewhere → ⊥
    other e = cc

    another : cause.ClosingId ≡ cause.Elsewhere → ⊥
    another e = cc

module _ (u : List ℕ) (at : ℕ) (g : Segment) (i : FieldId) where
  inside : (k : ℕ) → Reached (take at u) (Opened g i) → ValueBreaksAt u at k → Inside (take k u)
  inside k h b =
      record {
        segment = g;
        id = i;
        value = b.bytes;
        half = b.half;
        halved = b.halved;
        field = record {
          before = h.before;
          leads = h.leads;
          id = h.id;
          value = b.value;
          is = b.spans.is ∙ ap (λ (x : List ℕ). x ++ (b.bytes ++ b.half)) h.is ∙ append_assoc h.before (opening i) (b.bytes ++ b.half);
        };
      }

  in_closing : (m k : ℕ) → Reached (take at u) (Filled g i) → Spans u at (codes "</") m → Departs u m (letters i) k → InClosingId (take k u)
  in_closing m k (v, h) p d =
      let n = length-append d.read (d.next ∷ d.rest) in
      let l = ap length d.text in
      let spans = spans_join u at m k (codes "</") d.read p d.spans in
      let front : take (length d.read) (letters i) ≡ d.read = ap (take (length d.read)) d.text ∙ take_at d.read (d.next ∷ d.rest) (length d.read) refl in
      record {
        segment = g;
        id = i;
        value = v;
        read = length d.read;
        three = omega arith;
        field = record {
          before = h.before;
          leads = h.leads;
          id = h.id;
          value = h.value;
          is =
              spans.is ∙ ap (λ (x : List ℕ). x ++ (codes "</" ++ d.read)) (h.is ∙ ap (λ (y : List ℕ). h.before ++ (opening i ++ y)) (append-nil v))
              ∙ append_assoc h.before (opening i ++ v) (codes "</" ++ d.read)
              ∙ ap (λ (y : List ℕ). h.before ++ (opening i ++ (v ++ (codes "</" ++ y)))) (sym front);
        };
      }

pub fails_caused : (u : List ℕ) (at : ℕ) (s : Station) (c : Cause) (k : ℕ) → StandsAt u at s → at < length u → Fails u at s c k → Caused (take k u) c
fails_caused u at _ _ k h l (in_structure w d) = elsewhere u k (fails_halts u at _ cause.Elsewhere k h l (in_structure w d))
fails_caused u at _ _ k h l (in_opening w d) = elsewhere u k (fails_halts u at _ cause.Elsewhere k h l (in_opening w d))
fails_caused u at _ _ k h l (behind_all w) = elsewhere u at (fails_halts u at _ cause.Elsewhere at h l (behind_all w))
fails_caused u at _ _ k h l (in_value {g} {i} b) = inside u at g i k h.reached b
fails_caused u at _ _ k h l (at_slash {g} {i} d) = elsewhere u k (fails_halts u at (Filled g i) cause.Elsewhere k h l (at_slash d))
fails_caused u at _ _ k h l (in_id {g} {i} {m} p d) = in_closing u at g i m k h.reached p d
fails_caused u at _ _ k h l (at_end {g} {i} {m} p d) = elsewhere u k (fails_halts u at (Filled g i) cause.Elsewhere k h l (at_end p d))
