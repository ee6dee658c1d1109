-- One answer is right, and no other. Assumes nothing.
use Rattle.std.proofs.Common.{◌≡◌, ℕ, ◌+◌, ◌<◌, ◌≤◌, List, [], ◌∷◌, ◌++◌, length, take, drop, Result, Ok, Err, refl, sym, ap, ◌∙◌, subst, append_assoc, append-nil, inl, inr, arith}
use Rattle.std.proofs.lemmas.Bool.{true≢false, cases_lt}
use Rattle.std.proofs.lemmas.List.{take-append-drop, take-take}
use Rattle.grammar.specs.Grammar.{spelling, Leads, Lawful, Begins}
use Rattle.grammar.specs.Threads.{spells, run, start}
use Rattle.grammar.specs.declared.states.State.{State}
use Rattle.grammar.specs.declared.states.State.TheVariants.{Record, Body}
use Rattle.grammar.specs.declared.states.Tag.{Tag}
use Rattle.grammar.proofs.Runs.{begins_not}
use Rattle.grammar.proofs.Walks.{leads_run}
use Rattle.reader.specs.Laws.{Declared, FirstWrong, Caused, Unlawfully, Law, taken, undeclared, unlawful, no_header, no_visit, cut_short, Judged}
use Rattle.reader.specs.declared.faults.Cause.{Cause}
use Rattle.reader.specs.declared.faults.Cause.TheVariants as cause
use Rattle.reader.specs.declared.faults.Refusal.{Refusal}
use Rattle.reader.specs.declared.faults.Refusal.TheVariants.{Declaration, Unlawful, NoHeader, NoVisit, CutShort}
use Rattle.reader.proofs.Verdicts.{declared_on, inside_kind, in_closing_kind}
use Rattle.reader.proofs.Misses.{in_tag, dead_behind, in_tag_between, dead_on}
use Rattle.reader.proofs.Blames.{Strays, strays_header, strays_visit}

-- ---- beginnings

front_begins : (v w : List ℕ) → Begins (v ++ w) → Begins v
front_begins v w b = (w ++ b.0, subst Lawful (append_assoc v w b.0) b.1)

begins_take : (bs : List ℕ) (n : ℕ) → Begins bs → Begins (take n bs)
begins_take bs n b = front_begins (take n bs) (drop n bs) (subst Begins (sym (take-append-drop n bs)) b)

begins_shorter : (bs : List ℕ) (m n : ℕ) → m ≤ n → Begins (take n bs) → Begins (take m bs)
begins_shorter bs m n l b = subst Begins (take-take m n bs l) (begins_take (take n bs) m b)

first_before : (bs : List ℕ) (j k : ℕ) → FirstWrong bs j → FirstWrong bs k → j < k → ⊥
first_before bs j k f g l = let z = g.within in f.breaks (omega arith) (begins_shorter bs (j + 1) k (omega arith) g.begins)

first_unique : (bs : List ℕ) (j k : ℕ) → FirstWrong bs j → FirstWrong bs k → j ≡ k
first_unique bs j k f g =
    let p : j < k → ⊥ = first_before bs j k f g in
    let q : k < j → ⊥ = first_before bs k j g f in
    omega arith

leads_declared : (bs : List ℕ) (k : ℕ) (s : State) → Leads (take k bs) s → Declared bs
leads_declared bs k s l = declared_on bs k (l.rest, l.declared)

-- ---- stray tags

strays_not : (bs : List ℕ) (j : ℕ) (s : State) (t : Tag) (m : Strays bs j s t) → ¬ Begins (take (j + length (spelling m.tag)) bs)
strays_not bs j s t m = begins_not (take (j + length (spelling m.tag)) bs) (dead_behind bs j s m.tag m.leads m.stands m.astray)

strays_before : (bs : List ℕ) (j k : ℕ) (r s : State) (t v : Tag) → Strays bs j r t → Strays bs k s v → j < k → ⊥
strays_before bs j k r s t v m n l =
    let e = leads_run (take k bs) s n.leads in
    elim (cases_lt (j + length (spelling m.tag)) k) [
      | inl p ↦ nothing (sym e ∙ dead_on bs (j + length (spelling m.tag)) k (omega arith) (dead_behind bs j r m.tag m.leads m.stands m.astray))
      | inr p ↦ true≢false (sym (in_tag_between bs j r m.tag m.leads m.stands m.astray k l p) ∙ ap in_tag e)
    ]
  where
    nothing : spells [] s ∷ [] ≡ [] → ⊥
    nothing e = cc

strays_unique : (bs : List ℕ) (j k : ℕ) (r s : State) (t v : Tag) → Strays bs j r t → Strays bs k s v → j ≡ k
strays_unique bs j k r s t v m n =
    let p : j < k → ⊥ = strays_before bs j k r s t v m n in
    let q : k < j → ⊥ = strays_before bs k j s r v t n m in
    omega arith

header_or_visit : (bs : List ℕ) (j k : ℕ) (t v : Tag) → Strays bs j Record t → Strays bs k Body v → ⊥
header_or_visit bs j k t v m n =
    let e = strays_unique bs j k Record Body t v m n in
    apart (sym (leads_run (take j bs) Record m.leads) ∙ ap (λ i. run start (take i bs)) e ∙ leads_run (take k bs) Body n.leads)
  where
    apart : spells [] Record ∷ [] ≡ spells [] Body ∷ [] → ⊥
    apart e = cc

-- ---- causes

cause_unique : (w : List ℕ) (c d : Cause) → Caused w c → Caused w d → c ≡ d
cause_unique w cause.Value cause.Value h k = refl
cause_unique w cause.Value cause.ClosingId h k = sym (inside_kind w h) ∙ in_closing_kind w k
cause_unique w cause.Value cause.Elsewhere h k = absurd (k.0 h)
cause_unique w cause.ClosingId cause.Value h k = sym (in_closing_kind w h) ∙ inside_kind w k
cause_unique w cause.ClosingId cause.ClosingId h k = refl
cause_unique w cause.ClosingId cause.Elsewhere h k = absurd (k.1 h)
cause_unique w cause.Elsewhere cause.Value h k = absurd (h.0 k)
cause_unique w cause.Elsewhere cause.ClosingId h k = absurd (h.1 k)
cause_unique w cause.Elsewhere cause.Elsewhere h k = refl

-- ---- answers

module _ (bs : List ℕ) where
  unlawful_not : (c : Cause) (k : ℕ) → Unlawfully bs c k → Begins bs → ⊥
  unlawful_not c k h b = h.first.breaks h.some (begins_take bs (k + 1) b)

  strays_unlawful : (j : ℕ) (s : State) (t : Tag) → Strays bs j s t → Begins bs → ⊥
  strays_unlawful j s t m b = strays_not bs j s t m (begins_take bs (j + length (spelling m.tag)) b)

  begun : Lawful bs → Begins bs
  begun l = ([], subst Lawful (sym (append-nil bs)) l)

  pub one : (r q : Result (Unit {0}) Refusal) → Law bs r → Law bs q → r ≡ q
  one _ _ (taken l) (taken m) = refl
  one _ _ (taken l) (undeclared n f) = absurd (n (l.rest, l.declared))
  one _ _ (taken l) (unlawful {c} {k} h) = absurd (unlawful_not c k h (begun l))
  one _ _ (taken l) (no_header {k} m) = absurd (strays_unlawful k _ _ (strays_header bs k m) (begun l))
  one _ _ (taken l) (no_visit {k} m) = absurd (strays_unlawful k _ _ (strays_visit bs k m) (begun l))
  one _ _ (taken l) (cut_short e) = absurd (e.unlawful l)
  one _ _ (undeclared n f) (taken m) = absurd (n (m.rest, m.declared))
  one _ _ (undeclared {k = j} n f) (undeclared {k} m g) = ap (λ i. Err (Declaration i)) (first_unique bs j k f g)
  one _ _ (undeclared n f) (unlawful h) = absurd (n h.declared)
  one _ _ (undeclared n f) (no_header {k} m) = absurd (n (leads_declared bs k _ m.leads))
  one _ _ (undeclared n f) (no_visit {k} m) = absurd (n (leads_declared bs k _ m.leads))
  one _ _ (undeclared n f) (cut_short e) = absurd (n e.declared)
  one _ _ (unlawful {c} {k} h) (taken m) = absurd (unlawful_not c k h (begun m))
  one _ _ (unlawful h) (undeclared m g) = absurd (m h.declared)
  one _ _ (unlawful {c} {k = j} h) (unlawful {c = d} {k} g) =
      let e = first_unique bs j k h.first g.first in
      let f = cause_unique (take k bs) c d (subst (λ (i : ℕ). Caused (take i bs) c) e h.caused) g.caused in
      λ i. Err (Unlawful (f i) (e i))
  one _ _ (unlawful h) (no_header {k} m) = absurd (h.none_missed.header k m)
  one _ _ (unlawful h) (no_visit {k} m) = absurd (h.none_missed.visit k m)
  one _ _ (unlawful {c} {k} h) (cut_short e) = absurd (unlawful_not c k h e.begins)
  one _ _ (no_header {k} m) (taken n) = absurd (strays_unlawful k _ _ (strays_header bs k m) (begun n))
  one _ _ (no_header {k} m) (undeclared n g) = absurd (n (leads_declared bs k _ m.leads))
  one _ _ (no_header {k} m) (unlawful g) = absurd (g.none_missed.header k m)
  one _ _ (no_header {k = j} m) (no_header {k} n) = ap (λ i. Err (NoHeader i)) (strays_unique bs j k _ _ _ _ (strays_header bs j m) (strays_header bs k n))
  one _ _ (no_header {k = j} m) (no_visit {k} n) = absurd (header_or_visit bs j k _ _ (strays_header bs j m) (strays_visit bs k n))
  one _ _ (no_header {k} m) (cut_short e) = absurd (strays_unlawful k _ _ (strays_header bs k m) e.begins)
  one _ _ (no_visit {k} m) (taken n) = absurd (strays_unlawful k _ _ (strays_visit bs k m) (begun n))
  one _ _ (no_visit {k} m) (undeclared n g) = absurd (n (leads_declared bs k _ m.leads))
  one _ _ (no_visit {k} m) (unlawful g) = absurd (g.none_missed.visit k m)
  one _ _ (no_visit {k = j} m) (no_header {k} n) = absurd (header_or_visit bs k j _ _ (strays_header bs k n) (strays_visit bs j m))
  one _ _ (no_visit {k = j} m) (no_visit {k} n) = ap (λ i. Err (NoVisit i)) (strays_unique bs j k _ _ _ _ (strays_visit bs j m) (strays_visit bs k n))
  one _ _ (no_visit {k} m) (cut_short e) = absurd (strays_unlawful k _ _ (strays_visit bs k m) e.begins)
  one _ _ (cut_short e) (taken m) = absurd (e.unlawful m)
  one _ _ (cut_short e) (undeclared m g) = absurd (m e.declared)
  one _ _ (cut_short e) (unlawful {c} {k} h) = absurd (unlawful_not c k h e.begins)
  one _ _ (cut_short e) (no_header {k} m) = absurd (strays_unlawful k _ _ (strays_header bs k m) e.begins)
  one _ _ (cut_short e) (no_visit {k} m) = absurd (strays_unlawful k _ _ (strays_visit bs k m) e.begins)
  one _ _ (cut_short {k = j} e) (cut_short {k} f) = ap (λ i. Err (CutShort i)) (e.whole ∙ sym f.whole)

  pub judged : (r : Result (Unit {0}) Refusal) → Law bs r → Judged bs r
  judged r h = record { law = h; only = λ q k. one r q h k }

pub lawful_of : {bs : List ℕ} {r : Unit {0}} → Law bs (Ok r) → Lawful bs
lawful_of (taken l) = l
