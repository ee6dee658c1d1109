-- What the reader answers is right. Assumes nothing.
use Rattle.std.proofs.lemmas.Grind.{common_steps}
use Rattle.std.proofs.Common.{◌≡◌, ℕ, ◌<◌, ◌≤◌, false, eqb, ◌||◌, List, [], ◌∷◌, ◌++◌, length, get_or, take, Err, refl, sym, ap, ◌∙◌, append-nil, length-append, arith}
use Rattle.std.proofs.lemmas.Bool.{true≢false}
use Rattle.std.proofs.lemmas.List.{take_at}
use Rattle.std.proofs.Math.Seq.{take-length}
use Rattle.grammar.specs.Grammar.{declaration, Leads}
use Rattle.grammar.specs.Threads.{Thread, spells, run, start, ended, is_lawful}
use Rattle.grammar.specs.declared.states.State.{State}
use Rattle.grammar.specs.declared.states.State.TheVariants.{Start, Record, Body}
use Rattle.grammar.specs.declared.states.Element.TheVariants.{Msh, Mb1}
use Rattle.grammar.specs.declared.states.Tag.{Tag}
use Rattle.grammar.specs.declared.states.Tag.TheVariants.{Open}
use Rattle.grammar.proofs.Runs.{begins}
use Rattle.grammar.proofs.Walks.{spells_front}
use Rattle.grammar.proofs.Tested.{test_from_lawful}
use Rattle.reader.specs.Spans.{Departs}
use Rattle.reader.specs.Places.{OtherStands}
use Rattle.reader.specs.Moves.{may_end, StandsAt, Suits, Stops, Undeclared}
use Rattle.reader.specs.Readings.{Breaks}
use Rattle.reader.specs.Refusals.{tag_to_refusal}
use Rattle.reader.specs.Laws.{Declared, Missed, Ends, Law, undeclared, unlawful, no_header, no_visit, cut_short}
use Rattle.reader.specs.declared.stations.Station.{Station}
use Rattle.reader.specs.declared.stations.Station.TheVariants.{Between, Opened, Filled}
use Rattle.reader.specs.declared.faults.Cause.TheVariants as cause
use Rattle.reader.specs.declared.faults.TagFault.{TagFault}
use Rattle.reader.specs.declared.faults.TagFault.TheVariants as tag
use Rattle.reader.specs.declared.faults.Refusal.{Refusal}
use Rattle.reader.specs.declared.faults.Refusal.TheVariants.{Length, Declaration, Unlawful, NoHeader, NoVisit, CutShort, Foreign, TooMany, Call, Row}
use Rattle.reader.proofs.Texts.{departs_not}
use Rattle.reader.proofs.Halting.{Halts, off, reached_run, fails_halts}
use Rattle.reader.proofs.Verdicts.{first_wrong, ends, stands_declared, fails_caused}
use Rattle.reader.proofs.Blames.{none_missed}

-- ---- at the end

module _ (u : List ℕ) (at : ℕ) (whole : at ≡ length u) where
  all : take at u ≡ u
  all = ap (λ n. take n u) whole ∙ take-length u

  early : (t : Thread) → run start (take at u) ≡ t ∷ [] → ended (t ∷ []) ≡ false → Declared u → Ends u at
  unfolding is_lawful
  early t e f d =
      let stands : run start u ≡ t ∷ [] = sym (ap (run start) all) ∙ e in
      record { declared = d; whole = whole; begins = begins u t [] stands; unlawful = λ l. true≢false (sym (test_from_lawful u l) ∙ ap ended stands ∙ f) }

  no_end : (s : Station) → may_end s ≡ false → StandsAt u at s → Ends u at
  no_end (Between r) e h = early (spells [] r) (reached_run (take at u) (Between r) h.reached) (ap (λ b. b || false) e) (stands_declared u at (Between r) h)
  no_end (Opened g i) e h = early _ (reached_run (take at u) (Opened g i) h.reached) refl (stands_declared u at (Opened g i) h)
  no_end (Filled g i) e h = early _ (reached_run (take at u) (Filled g i) h.reached) refl (stands_declared u at (Filled g i) h)

  pub ends_early : (s : Station) → may_end s ≡ false → StandsAt u at s → Law u (Err (CutShort at))
  ends_early s e h = cut_short (no_end s e h)

-- ---- where a token breaks off

module _ (u : List ℕ) (at : ℕ) (l : at < length u) where
  missed : (k : ℕ) (s r : State) (t : Tag) → Leads (take at u) s → k ≡ at → s ≡ r → OtherStands u at t → Missed u r t k
  missed k s r t h p q o = grind (arith, common_steps)

  pub stops_law : (r : Refusal) (s : Station) → StandsAt u at s → Stops u at s r → Law u (Err r)
  stops_law Length s h x = absurd x
  stops_law (Declaration k) s h x = absurd x
  stops_law (Unlawful c k) s h x =
      unlawful (record {
        declared = stands_declared u at s h;
        some = x.0;
        first = first_wrong u k c (fails_halts u at s c k h l x.1);
        caused = fails_caused u at s c k h l x.1;
        none_missed = none_missed u at s c k h l x.1 x.0 x.2;
      })
  stops_law (NoHeader k) (Between s) h x = no_header (missed k s Record (Open Msh) h.reached x.0 x.1 x.2)
  stops_law (NoHeader k) (Opened g i) h x = absurd x
  stops_law (NoHeader k) (Filled g i) h x = absurd x
  stops_law (NoVisit k) (Between s) h x = no_visit (missed k s Body (Open Mb1) h.reached x.0 x.1 x.2)
  stops_law (NoVisit k) (Opened g i) h x = absurd x
  stops_law (NoVisit k) (Filled g i) h x = absurd x
  stops_law (CutShort k) s h x = cut_short (ends u k x.1.0 (fails_halts u at s x.1.0 k h l x.1.1) x.0 (stands_declared u at s h))
  stops_law (Foreign k) s h x = absurd x
  stops_law (TooMany k) s h x = absurd x
  stops_law Call s h x = absurd x
  stops_law (Row k) s h x = absurd x

-- where nothing says that another tag must stand, a fault stops the reader
pub breaks_stops : (u : List ℕ) (at : ℕ) (s : Station) → Suits u at s → (f : TagFault) → Breaks u at s f → Stops u at s (tag_to_refusal f)
breaks_stops u at s h (tag.Wrong c k) b = (b.0, b.1, h)
breaks_stops u at s h (tag.Ended k) b = b

-- ---- where the declaration breaks off

module _ (u : List ℕ) (k : ℕ) (within : k ≤ length u) (d : Departs u 0 declaration k) where
  halt : Halts u k cause.Elsewhere
  halt =
      record {
        within = within;
        first = spells (d.next ∷ d.rest) Start;
        others = [];
        is =
            ap (run start) d.spans.is ∙ ap (λ (t : List ℕ). run (spells t Start ∷ []) d.read) d.text
            ∙ ap (run (spells (d.read ++ (d.next ∷ d.rest)) Start ∷ [])) (sym (append-nil d.read)) ∙ spells_front d.read (d.next ∷ d.rest) Start [];
        cause = refl;
        dies = λ l. off (eqb (get_or u k 0) d.next) (spells d.rest Start) (d.refuses l);
        open_end = λ _. refl;
      }

  not_declared : ¬ Declared u
  not_declared h =
      let l = ap length h.1 in let m = length-append declaration h.0 in
      departs_not u 0 declaration k (length declaration) d
      (record { ends = refl; within = omega arith; is = ap (take (length declaration)) h.1 ∙ take_at declaration h.0 (length declaration) refl })

  pub declaration_law : Law u (Err (Declaration k))
  declaration_law = undeclared not_declared (first_wrong u k cause.Elsewhere halt)

pub undeclared_law : (u : List ℕ) (r : Refusal) → Undeclared u r → Law u (Err r)
undeclared_law u Length x = absurd x
undeclared_law u (Declaration k) x = declaration_law u k x.0 x.1
undeclared_law u (Unlawful c k) x = absurd x
undeclared_law u (NoHeader k) x = absurd x
undeclared_law u (NoVisit k) x = absurd x
undeclared_law u (CutShort k) x = absurd x
undeclared_law u (Foreign k) x = absurd x
undeclared_law u (TooMany k) x = absurd x
undeclared_law u Call x = absurd x
undeclared_law u (Row k) x = absurd x
