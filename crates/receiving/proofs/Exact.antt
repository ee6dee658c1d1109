-- A call has one right reply, and leaves one register. Assumes nothing.
use Rattle.std.proofs.Common.{◌≡◌, ℕ, ◌+◌, if◌then◌else◌, List, ◌∷◌, Option, Some, None, Ok, Err, refl, sym, ap, ◌∙◌, subst}
use Rattle.std.proofs.lemmas.Bool.{false≢true}
use Rattle.std.specs.Option.{option_and_then}
use Rattle.std.specs.Prelude.{is_none, is_ok, MatchOption}
use Rattle.records.specs.Records.{Record}
use Rattle.faults.specs.declared.rules.Rule.{Rule}
use Rattle.register.specs.Contents.{Contents}
use Rattle.register.specs.declared.key.Key.{Key}
use Rattle.verdicts.specs.Sights.{Setting}
use Rattle.settling.proofs.Kept.{holds, sound}
use Rattle.settling.proofs.Lowest.{one_verdict}
use Rattle.receiving.specs.Contents.{records_in, filing_of}
use Rattle.receiving.specs.Judging.{IsBroken, filed_in, Judges, Run, ended, judged}
use Rattle.receiving.specs.Events.{Reply, Event}
use Rattle.receiving.specs.Receiving.{setting_on, refused_reply, taken_reply, Received, goes_back, taken, Exact}
use Rattle.receiving.specs.Uses.{received, UseLaws, LookUpLaws}
use Rattle.judging.proofs.Judging.{ok_is, err_is}
use Rattle.receiving.proofs.Bisimilar.{same_for}
use Rattle.receiving.proofs.Keeping.{kept}

module _ (s : Setting) (k : List ℕ) where
  one_judging : (n : ℕ) (x : Record) (c : Contents) (v w : Option Rule) (d e : Contents) → Judges s k n x c v d → Judges s k n x c w e → (v ≡ w) × (d ≡ e)
  one_judging n x c v w d e p q =
      let same = one_verdict (IsBroken s k n x c) v w p.verdict q.verdict in
      (same, p.after ∙ ap (λ o. if is_none o then filed_in c (filing_of k x) else c) same ∙ sym q.after)

  one_run : {n : ℕ} {xs : List Record} {c d e : Contents} {vs ws : List (Option Rule)} → Run s k n xs c vs d → Run s k n xs c ws e → (vs ≡ ws) × (d ≡ e)
  one_run ended ended = (refl, refl)
  one_run {e = e} {ws = _} (judged {n = n} {x = x} {xs = xs} {c = c} {m = m} {v = v} p r) (judged {m = o} {v = w} {vs = ws} q t) =
      let same = one_judging n x c v w m o p q in
      let rest = one_run r (subst (λ z. Run s k (n + 1) xs z ws e) (sym same.1) t) in
      (λ i. same.0 i ∷ rest.0 i, rest.1)

module _ (c : Contents) (e : Event) where
  only : {d m : Contents} (r : Reply) → Received c e d → Received c (record e { reply = r }) m → (r ≡ e.reply) × (m ≡ d)
  only r (goes_back {r = o} a p) (goes_back {r = u} b q) = (q ∙ ap refused_reply (sym (err_is o u (a.only (Err u) b.law))) ∙ sym p, refl)
  only r (goes_back {r = o} a p) (taken {t = t} b run q) = absurd (false≢true (ap is_ok (a.only (Ok t) b.law)))
  only r (taken {t = t} a run p) (goes_back b q) = absurd (false≢true (ap is_ok (b.only (Ok t) a.law)))
  only {m = m} r (taken {t = t} {vs = vs} a run p) (taken {t = u} {vs = ws} b run′ q) =
      let same : t ≡ u = ok_is t u (a.only (Ok u) b.law) in
      let all = one_run (setting_on t.day e.call) e.call.sender run (subst (λ o. Run (setting_on o.day e.call) e.call.sender 1 (records_in e.call.upload) c ws m) (sym same) run′) in
      (q ∙ (λ i. taken_reply (setting_on (sym same i).day e.call) e.call (sym all.0 i)) ∙ sym p, sym all.1)

  pub exact : (d : Contents) → Received c e d → Exact c e d
  exact d h = record { law = h; only = λ r m. only r h }

  pub use_laws : (d : Contents) → Received c e d → UseLaws c e d
  use_laws d x = record {
    goes_on = λ n h r. received r x;
    stands = λ n h r. holds (kept (received r x));
    sound = λ n h r. sound (kept (received r x));
    alike = λ n m g h b k r s a. same_for k n m a (received r x) s;
  }

pub look_up_laws : (c : Contents) (k : Key) → LookUpLaws c k (c.at k)
look_up_laws c k = record {
  stands = λ n h r. holds (kept r) k;
  alike = λ n m g h b r s a. (same_for k.sender n m a r s).entries k refl;
}

pub looked_up : (c : Contents) (o : Option Key) → MatchOption o (option_and_then c.at o ≡ None) (λ k. LookUpLaws c k (option_and_then c.at o))
looked_up c None = refl
looked_up c (Some k) = look_up_laws c k
