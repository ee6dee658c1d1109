-- From a call to what is made of an input. Assumes nothing.
use Rattle.std.proofs.Common.{◌≡◌, ℕ, ◌∷◌, ◌++◌, List, length, take, drop, Option, Some, None, Result, Ok, Err, refl, sym, ap, ◌∙◌, subst}
use Rattle.std.proofs.lemmas.List.{take_at}
use Rattle.std.proofs.lemmas.Option.{MatchOption-at_some}
use Rattle.std.specs.Option.{option_map, ok_or}
use Rattle.reader.specs.declared.faults.Refusal.{Refusal}
use Rattle.reader.specs.declared.faults.Refusal.TheVariants as refusal
use Rattle.uploads.specs.Calls.{call_of}
use Rattle.uploads.specs.declared.calls.Call.{Call}
use Rattle.lists.specs.Lists.{Meaning}
use Rattle.faults.proofs.Reports.{length-overwritten}
use Rattle.faults.specs.Reports.{overwritten}
use Rattle.faults.specs.declared.report.Fault.{Fault}
use Rattle.faults.specs.declared.rules.Rule.{Rule}
use Rattle.register.specs.Contents.{Contents}
use Rattle.judging.proofs.Judging.{behind_sender, behind_day}
use Rattle.judging.specs.Inputs.{IsInput, Makes, CallIn}
use Rattle.judging.specs.declared.upload.Counts.{Counts}
use Rattle.receiving.specs.Events as events
use Rattle.receiving.specs.Receiving.{Received, Exact, reply_in, event_in}
use Rattle.receiving.specs.Inputs.{After, Judgement, bad_line, line, Judged}

answer_in : (r : Result Counts Refusal) (vs : List (Option Rule)) (fs : List Fault) → (reply_in r vs fs).answer ≡ r
answer_in (Ok n) vs fs = refl
answer_in (Err r) vs fs = refl

-- an input has one sender, one day and one upload
module _ (bs s d u t e v : List ℕ) (p : IsInput bs s d u) (q : IsInput bs t e v) where
  same_sender : s ≡ t
  same_sender = sym (take_at s (0x20 ∷ (d ++ (0x0a ∷ u))) 10 p.ten) ∙ ap (take 10) (sym p.is ∙ q.is) ∙ take_at t (0x20 ∷ (e ++ (0x0a ∷ v))) 10 q.ten

  same_day : d ≡ e
  same_day = sym (take_at d (0x0a ∷ u) 7 p.seven) ∙ ap (λ x. take 7 (drop 1 x)) (sym (behind_sender bs s d u p) ∙ behind_sender bs t e v q) ∙ take_at e (0x0a ∷ v) 7 q.seven

  same_upload : u ≡ v
  same_upload = ap (drop 1) (sym (behind_day bs s d u p) ∙ behind_day bs t e v q)

module _ (m : Meaning) (bs : List ℕ) (c : Contents) (vs : List (Option Rule)) (fs : List Fault) where
  one : (a b : After) → Judgement m bs c vs fs a → Judgement m bs c vs fs b → a ≡ b
  one a b (bad_line h e) (bad_line k f) = e ∙ sym f
  one a b (bad_line h e) (line {s} {d} {u} p x v f) = absurd (h s d u p)
  one a b (line {s} {d} {u} p x v f) (bad_line k e) = absurd (k s d u p)
  one a b (line {s} {d} {u} p x v f) (line {s = t} {d = e} {u = w} q y z g) =
      let here : events.Call = (event_in m s d u a.verdicts a.faults a.answer).call in
      let there : events.Call = (event_in m t e w b.verdicts b.faults b.answer).call in
      let call : there ≡ here = λ i. record {
        sender = (sym (same_sender bs s d u t e w p q)) i;
        day = (sym (same_day bs s d u t e w p q)) i;
        upload = (sym (same_upload bs s d u t e w p q)) i;
        verdict_rows = (ap length z ∙ length-overwritten vs (reply_in b.answer b.verdicts b.faults).verdicts ∙ sym (length-overwritten vs (reply_in a.answer a.verdicts a.faults).verdicts) ∙ sym (ap length v)) i;
        report_rows = (ap length g ∙ length-overwritten fs (reply_in b.answer b.verdicts b.faults).faults ∙ sym (length-overwritten fs (reply_in a.answer a.verdicts a.faults).faults) ∙ sym (ap length f)) i;
        listed = m;
      } in
      let same = x.only (reply_in b.answer b.verdicts b.faults) b.contents (subst (λ o. Received c (record { call = o; reply = reply_in b.answer b.verdicts b.faults }) b.contents) call y.law) in
      λ i. record {
        answer = (sym (answer_in a.answer a.verdicts a.faults) ∙ sym (ap (λ r. r.answer) same.0) ∙ answer_in b.answer b.verdicts b.faults) i;
        contents = (sym same.1) i;
        verdicts = (v ∙ ap (λ r. overwritten vs r.verdicts) (sym same.0) ∙ sym z) i;
        faults = (f ∙ ap (λ r. overwritten fs r.faults) (sym same.0) ∙ sym g) i;
      }

  judged : (a : After) → Judgement m bs c vs fs a → Judged m bs c vs fs a
  judged a h = record { law = h; only = λ b k. one a b h k }

  pub no_call : (o : Option Call) (r : Refusal) → CallIn bs (option_map call_of o) → Err r ≡ ok_or o refusal.Call → Judged m bs c vs fs (record { answer = Err r; contents = c; verdicts = vs; faults = fs })
  no_call None r h e =
      let is : r ≡ refusal.Call = cc in
      judged (record { answer = Err r; contents = c; verdicts = vs; faults = fs }) (bad_line h (λ i. record { answer = Err (is i); contents = c; verdicts = vs; faults = fs }))
  no_call (Some o) r h e = absurd cc

  pub a_call : (o : Option Call) (k : Call) (a : After) → CallIn bs (option_map call_of o) → o ≡ Some k → Exact c (event_in m k.sender.now k.day.now k.upload.now a.verdicts a.faults a.answer) a.contents
      → a.verdicts ≡ overwritten vs (reply_in a.answer a.verdicts a.faults).verdicts → a.faults ≡ overwritten fs (reply_in a.answer a.verdicts a.faults).faults → Judged m bs c vs fs a
  a_call o k a h e x v f =
      let makes = MatchOption-at_some _ (Makes bs) (call_of k) (ap (option_map call_of) e) h in
      judged a (line makes.input x v f)
