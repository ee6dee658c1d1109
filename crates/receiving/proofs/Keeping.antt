-- What every use keeps: the register holds what stands. Assumes nothing.
use Rattle.std.proofs.Common.{◌≡◌, ℕ, List, [], ◌∷◌, ◌++◌, Option, Some, None, refl, sym, ap, ◌∙◌, subst, inr, append-nil, append_assoc}
use Rattle.records.specs.Records.{Record}
use Rattle.faults.specs.declared.rules.Rule.{Rule}
use Rattle.register.specs.Contents.{Contents}
use Rattle.verdicts.specs.Sights.{Setting}
use Rattle.filings.specs.declared.filing.Filing.{Filing}
use Rattle.receiving.specs.Contents.{records_in, filing_of, option_list}
use Rattle.receiving.specs.Judging.{filed_in, Judges, Run, ended, judged}
use Rattle.receiving.specs.Events.{Event, History, accepted_one, accepted_among, accepted_in, accepted}
use Rattle.receiving.specs.Receiving.{Received, goes_back, taken}
use Rattle.receiving.specs.Uses.{Reaches, made, received}
use Rattle.settling.proofs.Kept.{Kept, kept_new, kept_done}

module _ (s : Setting) (k : List ℕ) where
  kept_filed : {gs : List Filing} {c d : Contents} (n : ℕ) (x : Record) (o : Option Filing) → filing_of k x ≡ o → Judges s k n x c None d → Kept gs c → Kept (gs ++ option_list o) (filed_in c o)
  kept_filed {gs} {c} n x None e h kept = subst (λ l. Kept l c) (sym (append-nil gs)) kept
  kept_filed n x (Some q) e h kept = kept_done s.today q (λ r a. h.verdict r (inr (q, e, a))) kept

  pub kept_judged : {gs : List Filing} {c d : Contents} (n : ℕ) (x : Record) (v : Option Rule) → Judges s k n x c v d → Kept gs c → Kept (gs ++ accepted_one k x v) d
  kept_judged {gs} n x None h kept = subst (λ m. Kept (gs ++ accepted_one k x None) m) (sym h.after) (kept_filed n x (filing_of k x) refl h kept)
  kept_judged {gs} {c} {d} n x (Some r) h kept = subst (λ m. Kept (gs ++ []) m) (sym h.after) (subst (λ l. Kept l c) (sym (append-nil gs)) kept)

  pub kept_run : {n : ℕ} {xs : List Record} {c d : Contents} {vs : List (Option Rule)} → Run s k n xs c vs d → (gs : List Filing) → Kept gs c → Kept (gs ++ accepted_among k xs vs) d
  kept_run {d = d} ended gs kept = subst (λ l. Kept l d) (sym (append-nil gs)) kept
  kept_run {d = d} (judged {n = n} {x = x} {xs = xs} {v = v} {vs = vs} h r) gs kept =
      subst (λ l. Kept l d) (append_assoc gs (accepted_one k x v) (accepted_among k xs vs)) (kept_run r (gs ++ accepted_one k x v) (kept_judged n x v h kept))

none_among : (k : List ℕ) (xs : List Record) → accepted_among k xs [] ≡ []
none_among k [] = refl
none_among k (x ∷ xs) = refl

pub kept_received : {gs : List Filing} {c d : Contents} {e : Event} → Received c e d → Kept gs c → Kept (gs ++ accepted_in e) d
kept_received {gs} {c} {e = e} (goes_back a r) kept =
    let none : accepted_in e ≡ [] = ap (λ y. accepted_among e.call.sender (records_in e.call.upload) y.verdicts) r ∙ none_among e.call.sender (records_in e.call.upload) in
    subst (λ l. Kept l c) (sym (ap (λ l. gs ++ l) none ∙ append-nil gs)) kept
kept_received {gs} {d = d} {e = e} (taken a run r) kept =
    subst (λ y. Kept (gs ++ accepted_among e.call.sender (records_in e.call.upload) y.verdicts) d) (sym r) (kept_run _ e.call.sender run gs kept)

pub kept : {n : ℕ} {h : History} {c : Contents} → Reaches n h c → Kept (accepted h) c
kept {n} made = kept_new n
kept (received r x) = kept_received x (kept r)
