-- What a sender has of two uses: record by record, call by call, over whole histories. Assumes nothing.
use Rattle.std.proofs.Common.{◌≡◌, ◌≢◌, ℕ, Bool, true, false, ◌&&◌, not, List, [], ◌∷◌, ◌++◌, inl, inr, Option, Some, None, Result, Ok, Err, refl, sym, ap, ◌∙◌, subst, append-nil}
use Rattle.std.proofs.lemmas.Bool.{false≢true}
use Rattle.std.proofs.lemmas.Cmp.{nat_list_eq_equiv}
use Rattle.std.proofs.lemmas.Option.{none-some}
use Rattle.std.specs.Prelude.{IsTrue, is_ok}
use Rattle.std.specs.Str.{bytes_eq}
use Rattle.calendar.specs.Calendar.{Date}
use Rattle.records.specs.Records.{Record}
use Rattle.uploads.specs.Calls.{Told, right_day}
use Rattle.uploads.specs.Answers.{Taken, Answer, Answered}
use Rattle.uploads.specs.Answers as answers
use Rattle.faults.specs.Along.{In}
use Rattle.faults.specs.declared.report.Fault.{Fault}
use Rattle.faults.specs.declared.rules.Rule.{Rule}
use Rattle.faults.specs.declared.rules.Rule.TheVariants.{NoRoom}
use Rattle.register.proofs.Sameness.{is_same}
use Rattle.register.specs.Contents.{Contents, has_room}
use Rattle.register.specs.Identifiers.{is_placeholder}
use Rattle.register.specs.Keys.{same_key}
use Rattle.register.specs.declared.key.Key.{Key}
use Rattle.verdicts.specs.Sights.{Setting}
use Rattle.verdicts.specs.Faults.{faults_of}
use Rattle.filings.specs.declared.filing.Deed.{Deed}
use Rattle.filings.specs.declared.filing.Deed.TheVariants.{Visit, Cancel, Delete}
use Rattle.filings.specs.declared.filing.Filing.{Filing}
use Rattle.settling.proofs.Deeds.{elsewhere, alike}
use Rattle.settling.proofs.Kept.{Kept, holds}
use Rattle.settling.proofs.Lowest.{one_verdict}
use Rattle.settling.specs.Against.{is_kept}
use Rattle.settling.specs.Settled.{done}
use Rattle.settling.specs.Standing.{Holds}
use Rattle.settling.specs.Verdicts.{IsLowest}
use Rattle.judging.proofs.Judging.{ok_is, err_is}
use Rattle.receiving.specs.Contents.{records_in, filing_of}
use Rattle.receiving.specs.Judging.{IsBroken, filed_in, Judges, Run, ended, judged}
use Rattle.receiving.specs.Events.{Call, Reply, Event, History, followed, accepted_one, accepted, own}
use Rattle.receiving.specs.Receiving.{told_of, setting_on, refused_reply, taken_reply, Received, goes_back, taken}
use Rattle.receiving.specs.Sights.{SameSight, Sights}
use Rattle.receiving.specs.Uses.{Reaches, made, received, SameCalls, Alike, begin_both, other_here, other_there, both, SameFor}
use Rattle.receiving.proofs.Taking.{sound}
use Rattle.receiving.proofs.Own.{Own, filing_sender, differ, run_apart}
use Rattle.receiving.proofs.Keeping.{kept_judged, kept}
use Rattle.receiving.proofs.Verdicts.{faulty, unfiled, against}
use Rattle.receiving.proofs.Alike.{same_but, same_against}

-- what is filed leaves the same of the sender's own entries
here_alike : (c d : Contents) (k : Key) (a : Deed) → c.at k ≡ d.at k → (IsTrue (is_kept k a) → has_room c k ≡ has_room d k) → (done c k a).at k ≡ (done d k a).at k
here_alike c d k (Visit e) p room = by (is_placeholder k.identifier) refl
  where
    by : (b : Bool) → is_placeholder k.identifier ≡ b → (done c k (Visit e)).at k ≡ (done d k (Visit e)).at k
    by true h = rw h p
    by false h = alike c d k (Visit e) p (room (ap not h))
here_alike c d k (Cancel w) p room = alike c d k (Cancel w) p (room refl)
here_alike c d k (Delete w) p room = alike c d k (Delete w) p (room refl)

module _ (k : List ℕ) (x : Record) (c d : Contents) (mine : Own k c d) where
  filed_alike : (o : Option Filing) → filing_of k x ≡ o → ((q : Filing) → o ≡ Some q → IsTrue (is_kept q.key q.deed) → has_room c q.key ≡ has_room d q.key) → Own k (filed_in c o) (filed_in d o)
  filed_alike None e room j s = mine j s
  filed_alike (Some q) e room j s = by (same_key q.key j) refl
    where
      by : (b : Bool) → same_key q.key j ≡ b → (done c q.key q.deed).at j ≡ (done d q.key q.deed).at j
      by true h = subst (λ i. (done c q.key q.deed).at i ≡ (done d q.key q.deed).at i) (is_same q.key j h) (here_alike c d q.key q.deed (mine q.key (filing_sender k x q e)) (room q refl))
      by false h = elsewhere c q.key j q.deed h ∙ mine j s ∙ sym (elsewhere d q.key j q.deed h)

roomy : (a b : Bool) → IsTrue a → ¬ IsTrue (a && not b) → b ≡ true
roomy true true h k = refl
roomy true false h k = absurd (k refl)
roomy false b h k = absurd (false≢true h)

module _ (s : Setting) (k : List ℕ) where
  -- a record
  module _ (gs hs : List Filing) (c d : Contents) (here : Holds gs c) (there : Holds hs d) (mine : Own k c d) (n : ℕ) (x : Record) where
    module _ (v w : Option Rule) (room : v ≢ Some NoRoom) (room′ : w ≢ Some NoRoom) (p : IsLowest (IsBroken s k n x c) v) (q : IsLowest (IsBroken s k n x d) w) where
      filed : faults_of s n x ≡ [] → (o : Option Filing) → filing_of k x ≡ o → ((f : Filing) → filing_of k x ≡ Some f → SameSight gs hs f) → v ≡ w
      filed e None f sight = one_verdict (IsBroken s k n x c) v None p (unfiled s k n x c e f) ∙ one_verdict (IsBroken s k n x d) None w (unfiled s k n x d e f) q
      filed e (Some a) f sight = same_but (IsBroken s k n x c) (IsBroken s k n x d) v w (λ r h. let same = same_against gs hs c d here there s.today a (mine a.key (filing_sender k x a f)) (sight a f) r h in (
        λ b. inr (a, f, same.0 (against s k n x c e a f r b)),
        λ b. inr (a, f, same.1 (against s k n x d e a f r b)),
      )) room room′ p q

      same_verdict : ((f : Filing) → faults_of s n x ≡ [] → filing_of k x ≡ Some f → SameSight gs hs f) → v ≡ w
      same_verdict sight = by (faults_of s n x) refl
        where
          by : (fs : List Fault) → faults_of s n x ≡ fs → v ≡ w
          by [] e = filed e (filing_of k x) refl (λ f. sight f e)
          by (f ∷ fs) e = one_verdict (IsBroken s k n x c) v (Some f.rule) p (faulty s k n x c f fs e) ∙ one_verdict (IsBroken s k n x d) (Some f.rule) w (faulty s k n x d f fs e) q

    after : {c′ d′ : Contents} (v w : Option Rule) → v ≡ w → Judges s k n x c v c′ → Judges s k n x d w d′ → Own k c′ d′
    after None None e p q j h =
        ap (λ m. m.at j) p.after
        ∙ filed_alike k x c d mine (filing_of k x) refl (λ a f kept. roomy _ _ kept (λ t. p.verdict NoRoom (inr (a, f, t))) ∙ sym (roomy _ _ kept (λ t. q.verdict NoRoom (inr (a, f, t))))) j h
        ∙ sym (ap (λ m. m.at j) q.after)
    after (Some r) (Some o) e p q j h = ap (λ m. m.at j) p.after ∙ mine j h ∙ sym (ap (λ m. m.at j) q.after)
    after None (Some o) e p q j h = absurd (none-some o e)
    after (Some r) None e p q j h = absurd (none-some r (sym e))

  -- the records of an upload, one after the other
  pub run_alike : {n : ℕ} {xs : List Record} {c d c′ d′ : Contents} {vs ws : List (Option Rule)} → Run s k n xs c vs c′ → Run s k n xs d ws d′ → (gs hs : List Filing) → Kept gs c → Kept hs d → Own k c d
      → Sights s k n xs vs ws gs hs → ¬ In (Some NoRoom) vs → ¬ In (Some NoRoom) ws → (vs ≡ ws) × Own k c′ d′
  run_alike ended ended gs hs g h mine sights room room′ = (refl, mine)
  run_alike (judged {n = n} {x = x} {c = c} {v = v} p r) (judged {c = d} {v = w} q t) gs hs g h mine sights room room′ =
      let same = same_verdict gs hs c d (holds g) (holds h) mine n x v w (λ e. room (inl (sym e))) (λ e. room′ (inl (sym e))) p.verdict q.verdict sights.0 in
      let rest = run_alike r t (gs ++ accepted_one k x v) (hs ++ accepted_one k x w) (kept_judged s k n x v p g) (kept_judged s k n x w q h)
      (after gs hs c d (holds g) (holds h) mine n x v w same p q) sights.1 (λ i. room (inr i)) (λ i. room′ (inr i)) in
      (λ i. same i ∷ rest.0 i, rest.1)

-- a call
module _ (call : Call) (y z : Reply) (gs hs : List Filing) (c d : Contents) (g : Kept gs c) (h : Kept hs d) (mine : Own call.sender c d)
    (sights : (t : Date) → right_day (told_of call) ≡ Some t → Sights (setting_on t call) call.sender 1 (records_in call.upload) y.verdicts z.verdicts gs hs)
    (room : ¬ In (Some NoRoom) y.verdicts) (room′ : ¬ In (Some NoRoom) z.verdicts) where
  abbrev of : Reply → Event
  of r = record { call = call; reply = r }

  received_alike : {c′ d′ : Contents} → Received c (of y) c′ → Received d (of z) d′ → (y ≡ z) × Own call.sender c′ d′
  received_alike (goes_back {r = r} a e) (goes_back {r = o} b f) = (e ∙ ap refused_reply (err_is r o (a.only (Err o) b.law)) ∙ sym f, mine)
  received_alike (goes_back {r = r} a e) (taken {t = t} b q f) = absurd (false≢true (ap is_ok (a.only (Ok t) b.law)))
  received_alike (taken {t = t} a p e) (goes_back {r = o} b f) = absurd (false≢true (ap is_ok (b.only (Ok t) a.law)))
  received_alike {d′ = d′} (taken {t = t} {vs = vs} a p e) (taken {t = u} {vs = ws} b q f) =
      let same : t ≡ u = ok_is t u (a.only (Ok u) b.law) in
      let sees = subst (λ l. Sights (setting_on t.day call) call.sender 1 (records_in call.upload) l ws gs hs) (ap (λ r. r.verdicts) e)
      (subst (λ l. Sights (setting_on t.day call) call.sender 1 (records_in call.upload) y.verdicts l gs hs) (ap (λ r. r.verdicts) f) (sights t.day (sound (told_of call) t a.law).day)) in
      let all = run_alike (setting_on t.day call) call.sender p (subst (λ o. Run (setting_on o.day call) call.sender 1 (records_in call.upload) d ws d′) (sym same) q) gs hs g h mine sees
      (subst (λ r. ¬ In (Some NoRoom) r.verdicts) e room) (subst (λ r. ¬ In (Some NoRoom) r.verdicts) f room′) in
      (e ∙ (λ i. taken_reply (setting_on (same i).day call) call (all.0 i)) ∙ sym f, all.1)

-- whole histories
same_call : (k : List ℕ) (a b : Call) → SameCalls k a b → a ≡ b
same_call k a b s = λ i. record {
  sender = (s.here ∙ sym s.there) i;
  day = s.day i;
  upload = s.upload i;
  verdict_rows = s.verdict_rows i;
  report_rows = s.report_rows i;
  listed = s.listed i;
}

received_apart : (k : List ℕ) (c : Contents) (e : Event) (d : Contents) → Received c e d → e.call.sender ≢ k → (j : Key) → j.sender ≡ k → d.at j ≡ c.at j
received_apart k c e d (goes_back a r) other j h = refl
received_apart k c e d (taken {t = t} a p r) other j h = run_apart (setting_on t.day e.call) e.call.sender p j (λ f. other (sym f ∙ h))

own_apart : (k : List ℕ) (g : History) (e : Event) → e.call.sender ≢ k → own k (followed g e) ≡ own k g
own_apart k g e other = rw (differ e.call.sender k other) (append-nil (own k g))

own_more : (k : List ℕ) (g : History) (e : Event) → e.call.sender ≡ k → own k (followed g e) ≡ own k g ++ e.reply ∷ []
own_more k g e same = rw (itself e.call.sender k same) refl
  where
    itself : (x y : List ℕ) → x ≡ y → bytes_eq x y ≡ true
    itself x y p = subst (λ z. bytes_eq x z ≡ true) p (nat_list_eq_equiv.refl x)

pub same_for : (k : List ℕ) (n m : ℕ) {g h : History} {c d : Contents} → Alike k g h → Reaches n g c → Reaches m h d → SameFor k g c h d
same_for k n m begin_both made made = record { replies = refl; entries = λ j h. refl }
same_for k n m (other_here {g = g} {e = e} a other) (received {c = c} {d = d} r x) s =
    let so = same_for k n m a r s in
    record { replies = own_apart k g e other ∙ so.replies; entries = λ j h. received_apart k c e d x other j h ∙ so.entries j h }
same_for k n m (other_there {h = h} {f = f} a other) r (received {c = c} {d = d} s x) =
    let so = same_for k n m a r s in
    record { replies = so.replies ∙ sym (own_apart k h f other); entries = λ j e. so.entries j e ∙ sym (received_apart k c f d x other j e) }
same_for k n m (both {g = g} {h = h} {e = e} {f = f} a same) (received {c = c} {d = c′} r x) (received {c = d} {d = d′} s y) =
    let so = same_for k n m a r s in
    let call = same_call k e.call f.call same.calls in
    let here = same.calls.here in
    let got = received_alike e.call e.reply f.reply (accepted g) (accepted h) c d (kept r) (kept s) (λ j p. so.entries j (p ∙ here))
    (λ t p. subst (λ i. Sights (setting_on t e.call) i 1 (records_in e.call.upload) e.reply.verdicts f.reply.verdicts (accepted g) (accepted h)) (sym here) (same.sights t p))
    same.room_here same.room_there x (subst (λ o. Received d (record { call = o; reply = f.reply }) d′) (sym call) y) in
    record {
      replies = own_more k g e here ∙ (λ i. so.replies i ++ got.0 i ∷ []) ∙ sym (own_more k h f same.calls.there);
      entries = λ j p. got.1 j (p ∙ sym here);
    }
