-- Where a token breaks off, no other tag stands where <MSH> or <MB1> must. Assumes nothing.
use Rattle.std.proofs.Common.{◌≡◌, ◌≢◌, ℕ, ◌+◌, ◌<◌, ◌≤◌, false, List, [], ◌∷◌, length, get_or, take, refl, sym, ap, ◌∙◌, subst, append-nil, arith}
use Rattle.std.proofs.lemmas.Bool.{true≢false}
use Rattle.grammar.specs.Grammar.{spelling, Leads}
use Rattle.grammar.specs.Threads.{Thread, spells, opens, steps, run, start}
use Rattle.grammar.specs.declared.states.Element.TheVariants.{Msh, Mb1}
use Rattle.grammar.specs.declared.states.State.{State}
use Rattle.grammar.specs.declared.states.State.TheVariants.{Record, Body}
use Rattle.grammar.specs.declared.states.Tag.{Tag}
use Rattle.grammar.specs.declared.states.Tag.TheVariants.{Open}
use Rattle.grammar.proofs.Walks.{leads_run}
use Rattle.reader.specs.Readings.{Fails, in_structure, in_opening, behind_all, in_value, at_slash, in_id, at_end}
use Rattle.reader.specs.Places.{TagStands, OtherStands}
use Rattle.reader.specs.Moves.{StandsAt, Suits}
use Rattle.reader.specs.Laws.{Missed, NoneMissed}
use Rattle.reader.specs.declared.stations.Station.{Station}
use Rattle.reader.specs.declared.stations.Station.TheVariants.{Between, Opened, Filled}
use Rattle.reader.specs.declared.faults.Cause.{Cause}
use Rattle.reader.proofs.Halting.{Halts, Shut, opens_shut, begins_bracket, threads_of, reached_run, fails_halts}
use Rattle.reader.proofs.Verdicts.{run_dies}
use Rattle.reader.proofs.Misses.{in_tag, Astray, astray_header, astray_visit, dead_behind, in_tag_between, dead_on}
use Rattle.reader.proofs.Reaching.{tag_some}
use Rattle.reader.proofs.Spanning.{span_byte}
use Rattle.reader.proofs.Clearing.{fails_clear}

-- another tag than t, so one that does not go on
pub record Strays (u : List ℕ) (j : ℕ) (s : State) (t : Tag) : Type 0 where
  pub leads : Leads (take j u) s
  pub tag : Tag
  pub stands : TagStands u j tag
  pub astray : Astray s tag

strays : (u : List ℕ) (j : ℕ) (s : State) (t : Tag) → ((x : Tag) → x ≢ t → Astray s x) → Missed u s t j → Strays u j s t
strays u j s t all m =
    record { leads = m.leads; tag = m.other.0.0; stands = m.other.0.1; astray = all m.other.0.0 (λ e. m.other.1 (subst (λ (x : Tag). TagStands u j x) e m.other.0.1)) }

pub strays_header : (u : List ℕ) (j : ℕ) → Missed u Record (Open Msh) j → Strays u j Record (Open Msh)
strays_header u j = strays u j Record (Open Msh) astray_header

pub strays_visit : (u : List ℕ) (j : ℕ) → Missed u Body (Open Mb1) j → Strays u j Body (Open Mb1)
strays_visit u j = strays u j Body (Open Mb1) astray_visit

fails_from : (u : List ℕ) (at : ℕ) (s : Station) (c : Cause) (k : ℕ) → Fails u at s c k → at ≤ k
fails_from u at _ _ k (in_structure w d) = let e = d.spans.ends in omega arith
fails_from u at _ _ k (in_opening w d) = let e = d.stand.spans.ends in omega arith
fails_from u at _ _ k (behind_all w) = omega arith
fails_from u at _ _ k (in_value b) = let e = b.spans.ends in omega arith
fails_from u at _ _ k (at_slash d) = let e = d.spans.ends in omega arith
fails_from u at _ _ k (in_id p d) = let e = d.spans.ends in let f = p.ends in omega arith
fails_from u at _ _ k (at_end p d) = let e = d.spans.ends in let f = p.ends in omega arith

nothing : (t : Thread) (ts : List Thread) → t ∷ ts ≡ [] → ⊥
nothing t ts e = cc

no_tag : (s : Station) → in_tag (threads_of s) ≡ false
no_tag (Between s) = refl
no_tag (Opened g i) = refl
no_tag (Filled g i) = refl

between_is : (s : Station) (r : State) → threads_of s ≡ spells [] r ∷ [] → s ≡ Between r
between_is (Between s) r e = cc
between_is (Opened g i) r e = absurd (cc)
between_is (Filled g i) r e = absurd (cc)

module _ (u : List ℕ) (at : ℕ) (s : Station) (c : Cause) (k : ℕ) (h : StandsAt u at s) (l : at < length u) (f : Fails u at s c k) (some : k < length u) where
  halt : Halts u k c
  halt = fails_halts u at s c k h l f

  module _ (j : ℕ) (r : State) (t : Tag) (goes_on : Shut (opens r)) (m : Strays u j r t) where
    here : run start (take j u) ≡ spells [] r ∷ []
    here = leads_run (take j u) r m.leads

    bracket : get_or u j 0 ≡ 0x3c
    bracket =
        let z = m.stands.ends in let y = tag_some m.tag in
        span_byte u j (j + length (spelling m.tag)) j (spelling m.tag) (omega arith) (omega arith) m.stands ∙ ap (λ (i : ℕ). get_or (spelling m.tag) i 0) (omega arith) ∙ begins_bracket m.tag

    -- the stray tag is not over at k
    before_end : k < j + length (spelling m.tag)
    before_end =
        let p : j + length (spelling m.tag) ≤ k → ⊥ = λ e. nothing halt.first halt.others (sym halt.is ∙ dead_on u (j + length (spelling m.tag)) k e (dead_behind u j r m.tag m.leads m.stands m.astray)) in
        omega arith

    not_before : j < at → ⊥
    not_before e =
        let z = fails_from u at s c k f in let y = before_end in
        true≢false (sym (in_tag_between u j r m.tag m.leads m.stands m.astray at e (omega arith)) ∙ ap in_tag (reached_run (take at u) s h.reached) ∙ no_tag s)

    not_at_end : j ≡ k → ⊥
    not_at_end e =
        let is : halt.first ∷ halt.others ≡ spells [] r ∷ [] = sym halt.is ∙ subst (λ (i : ℕ). run start (take i u) ≡ spells [] r ∷ []) e here in
        let byte : get_or u k 0 ≡ 0x3c = subst (λ (i : ℕ). get_or u i 0 ≡ 0x3c) e bracket in
        nothing goes_on.first goes_on.others
        (sym goes_on.is ∙ sym (append-nil (opens r)) ∙ ap (λ x. steps x (spells [] r ∷ [])) (sym byte) ∙ ap (steps (get_or u k 0)) (sym is) ∙ halt.dies some)

    not_behind : at < j → ⊥
    not_behind e =
        let p : j < k → ⊥ = λ l. fails_clear u at j s c k h f e l bracket in
        let q : k < j → ⊥ = λ l. nothing (spells [] r) [] (sym here ∙ dead_on u (k + 1) j (omega arith) (run_dies u k c halt some)) in
        not_at_end (omega arith)

    at_place : j ≡ at
    at_place = let p : j < at → ⊥ = not_before in let q : at < j → ⊥ = not_behind in omega arith

    station_is : s ≡ Between r
    station_is = between_is s r (sym (reached_run (take at u) s h.reached) ∙ subst (λ (i : ℕ). run start (take i u) ≡ spells [] r ∷ []) at_place here)

  pub none_missed : Suits u at s → NoneMissed u
  none_missed z =
      record {
        header = λ j m.
            let y = strays_header u j m in
            let o = opens_shut Record (λ e. cc) in
            (subst (Suits u at) (station_is j Record (Open Msh) o y) z).0 refl (subst (λ (i : ℕ). OtherStands u i (Open Msh)) (at_place j Record (Open Msh) o y) m.other);
        visit = λ j m.
            let y = strays_visit u j m in
            let o = opens_shut Body (λ e. cc) in
            (subst (Suits u at) (station_is j Body (Open Mb1) o y) z).1 refl (subst (λ (i : ℕ). OtherStands u i (Open Mb1)) (at_place j Body (Open Mb1) o y) m.other);
      }
