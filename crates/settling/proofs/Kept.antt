-- What a register keeps to while filings are accepted. Assumes nothing.
--     Apart i e j f   the entries e under i and f under j do not contradict: they take no refill both, and neither is of the other, if that is cancelled
--     Fits c k e      the entry e under k fits to what c has under other keys, and is not of k itself
--     Kept qs c       c has what stands after the filings qs, and each of its entries fits
use Rattle.std.proofs.Common.{◌≡◌, ◌≢◌, ℕ, Bool, true, false, cond, ◌&&◌, ◌||◌, not, if◌then◌else◌, List, [], ◌∷◌, ◌++◌, inl, inr, Option, Some, None, is_some, refl, sym, ap, ◌∙◌, subst}
use Rattle.std.proofs.lemmas.Bool.{false≢true, both_ways, and_from, or_left, or_right, not_from_false}
use Rattle.std.proofs.lemmas.List.Sums.{fold_push}
use Rattle.std.proofs.lemmas.Option.{none-some, same_Some}
use Rattle.std.specs.Option.{option_map_or}
use Rattle.std.specs.Prelude.{IsTrue, IsSomeAnd}
use Rattle.calendar.specs.Calendar.{Date}
use Rattle.faults.specs.declared.rules.Rule.{Rule}
use Rattle.faults.specs.declared.rules.Rule.TheVariants.{Dispensed, Prescription, NoRoom}
use Rattle.register.specs.Contents.{Contents, has_room, begun, DispensedElsewhere, TakenElsewhere}
use Rattle.register.specs.Entries.{Takes}
use Rattle.register.specs.Identifiers.{is_placeholder}
use Rattle.register.specs.Keys.{same_key}
use Rattle.register.specs.Refills.{is_refill}
use Rattle.register.specs.declared.entry.Entry.{Entry}
use Rattle.register.specs.declared.key.Key.{Key}
use Rattle.register.proofs.Sameness.{same_itself, is_same}
use Rattle.filings.specs.declared.filing.Deed.{Deed}
use Rattle.filings.specs.declared.filing.Deed.TheVariants.{Visit, Cancel, Delete}
use Rattle.filings.specs.declared.filing.Filing.{Filing}
use Rattle.settling.specs.Against.{Against, is_unfit, Unfillable}
use Rattle.settling.specs.Settled.{marked, done}
use Rattle.settling.specs.Standing.{Standing, Holds, Sound}
use Rattle.settling.proofs.Deeds.{left, after, puts, here, elsewhere}
use Rattle.settling.proofs.Stands.{standing, standing_from, from_standing}

pub record Apart (i : Key) (e : Entry) (j : Key) (f : Entry) : Type 0 where
  pub once : (o : Key) (n : ℕ) → IsTrue (is_refill n) → Takes o n i e → Takes o n j f → ⊥
  pub open_first : IsTrue e.cancelled → f.origin ≢ Some i
  pub open_second : IsTrue f.cancelled → e.origin ≢ Some j

pub record Fits (c : Contents) (k : Key) (e : Entry) : Type 0 where
  pub not_itself : e.origin ≢ Some k
  pub apart : (j : Key) (f : Entry) → j ≢ k → c.at j ≡ Some f → Apart k e j f

pub record Kept (qs : List Filing) (c : Contents) : Type 0 where
  pub stands : (k : Key) → c.at k ≡ (if is_placeholder k.identifier then None else standing k qs)
  pub fits : (k : Key) (e : Entry) → c.at k ≡ Some e → Fits c k e

pub kept_new : (n : ℕ) → Kept [] (begun n)
kept_new n = record {
  stands = λ k. elim (is_placeholder k.identifier) as (λ b. ◌≡◌ {A = Option Entry} None (cond b None None)) [ true ↦ refl | false ↦ refl ];
  fits = λ k e h. absurd (none-some e h);
}

-- what an entry is tried for before it is put or marked

standing_with : {o : Option Entry} {e : Entry} (P : Entry → Type 0) → o ≡ Some e → P e → IsSomeAnd o P
standing_with P h p = subst (λ o. IsSomeAnd o P) (sym h) p

fits_visit : (c : Contents) (k : Key) (e : Entry) → (Unfillable c k (Visit e) → ⊥) → Fits c k (marked false e)
fits_visit c k e fillable = record {
  not_itself = λ h. fillable (inl (ap fails h ∙ or_left _ _ (same_itself k)));
  apart = λ j f other h. record {
    once = λ o n r s t.
        fillable (inr (n, and_from _ _ r s.1, subst (λ u. IsSomeAnd u (λ o. TakenElsewhere c o n k)) (sym s.0) (j, other, standing_with (Takes o n j) h t)));
    open_first = λ no. absurd (false≢true no);
    open_second = λ cancelled from. fillable (inl (ap fails from ∙ or_right _ _ (ap (λ o. option_map_or (is_unfit e) o false) h ∙ or_left _ _ cancelled)));
  };
}
  where
    fails : Option Key → Bool
    fails u = option_map_or (λ o. same_key o k || option_map_or (is_unfit e) (c.at o) false) u false

fits_cancelled : (c : Contents) (k : Key) (e : Entry) → (DispensedElsewhere c k → ⊥) → Fits c k e → Fits c k (marked true e)
fits_cancelled c k e undispensed fit = record {
  not_itself = fit.not_itself;
  apart = λ j f other h. let a = fit.apart j f other h in record {
    once = a.once;
    open_first = λ _ from. undispensed (j, other, standing_with (λ f. f.origin ≡ Some k) h from);
    open_second = a.open_second;
  };
}

apart_turned : (i : Key) (e : Entry) (j : Key) (f : Entry) → Apart i e j f → Apart j f i e
apart_turned i e j f a = record { once = λ o n r s t. a.once o n r t s; open_first = a.open_second; open_second = a.open_first }

other_key : (a b : Key) → same_key a b ≡ false → b ≢ a
other_key a b h e = both_ways (same_key a b) h (ap (λ x. same_key a x) e ∙ same_itself a)

-- a register d that differs from c under k alone, where it has what fits or nothing
module _ (c d : Contents) (k : Key) (same : (i : Key) → same_key k i ≡ false → d.at i ≡ c.at i) (old : (i : Key) (e : Entry) → c.at i ≡ Some e → Fits c i e)
    (new : (e : Entry) → d.at k ≡ Some e → Fits c k e) where
  apart_there : (i : Key) (e : Entry) → d.at i ≡ Some e → (j : Key) (f : Entry) → j ≢ i → d.at j ≡ Some f → (a b : Bool) → same_key k i ≡ a → same_key k j ≡ b → Apart i e j f
  apart_there i e h j f other g true true s t = absurd (other (sym (is_same k j t) ∙ is_same k i s))
  apart_there i e h j f other g true false s t = subst (λ k. (e : Entry) → d.at k ≡ Some e → Apart k e j f) (is_same k i s)
      (λ e h. (new e h).apart j f (other_key k j t) (sym (same j t) ∙ g)) e h
  apart_there i e h j f other g false true s t = subst (λ k. (f : Entry) → d.at k ≡ Some f → Apart i e k f) (is_same k j t)
      (λ f g. apart_turned k f i e ((new f g).apart i e (other_key k i s) (sym (same i s) ∙ h))) f g
  apart_there i e h j f other g false false s t = (old i e (sym (same i s) ∙ h)).apart j f other (sym (same j t) ∙ g)

  not_itself_there : (i : Key) (e : Entry) → d.at i ≡ Some e → (a : Bool) → same_key k i ≡ a → e.origin ≢ Some i
  not_itself_there i e h true s = subst (λ k. (e : Entry) → d.at k ≡ Some e → e.origin ≢ Some k) (is_same k i s) (λ e h. (new e h).not_itself) e h
  not_itself_there i e h false s = (old i e (sym (same i s) ∙ h)).not_itself

  fits_there : (i : Key) (e : Entry) → d.at i ≡ Some e → Fits d i e
  fits_there i e h = record {
    not_itself = not_itself_there i e h (same_key k i) refl;
    apart = λ j f other g. apart_there i e h j f other g (same_key k i) (same_key k j) refl refl;
  }

module _ (qs : List Filing) (c : Contents) (kept : Kept qs c) (today : Date) (k : Key) where
  abbrev Accepted : Deed → Type 0
  Accepted d = (r : Rule) → ¬ Against c today (record { key = k; deed = d }) r

  -- what is left under the key of an accepted filing fits
  fits_left : (d : Deed) → Accepted d → (o : Option Entry) → c.at k ≡ o → (p room : Bool) → is_placeholder k.identifier ≡ p
      → (e : Entry) → left (not p && room) d o ≡ Some e → Fits c k e
  fits_left (Visit x) ok o h false true p e l = subst (Fits c k) (same_Some _ e l) (fits_visit c k x (λ u. ok Prescription (not_from_false _ p, u)))
  fits_left (Visit x) ok o h false false p e l = kept.fits k e (h ∙ l)
  fits_left (Visit x) ok o h true room p e l = kept.fits k e (h ∙ l)
  fits_left (Cancel w) ok (Some y) h b room p e l =
      subst (Fits c k) (same_Some _ e l) (fits_cancelled c k y (λ u. ok Dispensed (ap is_some h, u)) (kept.fits k y h))
  fits_left (Cancel w) ok None h b room p e l = absurd (none-some e l)
  fits_left (Delete w) ok o h b room p e l = absurd (none-some e l)

  -- a visit that is not under a placeholder has room
  stands_left : (d : Deed) → Accepted d → (o : Option Entry) (p room : Bool) → is_placeholder k.identifier ≡ p → has_room c k ≡ room
      → left (not p && room) d (cond p None o) ≡ cond p None (left true d o)
  stands_left (Visit x) ok o true room p r = refl
  stands_left (Visit x) ok o false true p r = refl
  stands_left (Visit x) ok o false false p r = absurd (ok NoRoom (and_from _ _ (not_from_false _ p) (not_from_false _ r)))
  stands_left (Cancel w) ok o true room p r = refl
  stands_left (Cancel w) ok o false room p r = refl
  stands_left (Delete w) ok o true room p r = refl
  stands_left (Delete w) ok o false room p r = refl

  stands_there : (d : Deed) → Accepted d → (i : Key) (b : Bool) → same_key k i ≡ b
      → (done c k d).at i ≡ cond (is_placeholder i.identifier) None (cond b (left true d (standing i qs)) (standing i qs))
  stands_there d ok i true s =
      subst (λ i. (done c k d).at i ≡ cond (is_placeholder i.identifier) None (left true d (standing i qs))) (is_same k i s)
      (here c k d ∙ ap (left (puts c k) d) (kept.stands k) ∙ stands_left d ok (standing k qs) (is_placeholder k.identifier) (has_room c k) refl refl)
  stands_there d ok i false s = elsewhere c k i d s ∙ kept.stands i

pub kept_done : {qs : List Filing} {c : Contents} (today : Date) (q : Filing) → ((r : Rule) → ¬ Against c today q r) → Kept qs c → Kept (qs ++ q ∷ []) (done c q.key q.deed)
kept_done {qs} {c} today q ok kept = record {
  stands = λ i.
      stands_there qs c kept today q.key q.deed ok i (same_key q.key i) refl
      ∙ ap (λ o. cond (is_placeholder i.identifier) None o) (sym (fold_push (after i) None qs q));
  fits = fits_there c (done c q.key q.deed) q.key (λ i s. elsewhere c q.key i q.deed s) kept.fits
      (λ e h. fits_left qs c kept today q.key q.deed ok (c.at q.key) refl (is_placeholder q.key.identifier) (has_room c q.key) refl e (sym (here c q.key q.deed) ∙ h));
}

-- what stands

to_standing : (qs : List Filing) (k : Key) (e : Entry) (b : Bool) → is_placeholder k.identifier ≡ b → cond b None (standing k qs) ≡ Some e → Standing qs k e
to_standing qs k e true p h = absurd (none-some e h)
to_standing qs k e false p h = from_standing k p qs e h

pub holds : {qs : List Filing} {c : Contents} → Kept qs c → Holds qs c
holds {qs} kept k e = (
  λ h. to_standing qs k e (is_placeholder k.identifier) refl (sym (kept.stands k) ∙ h),
  λ s. kept.stands k ∙ ap (λ b. cond b None (standing k qs)) s.is_true ∙ standing_from k qs e s,
)

pub sound : {qs : List Filing} {c : Contents} → Kept qs c → Sound qs
sound {qs} {c} kept = record {
  once = λ o n r i j e f s t u v. once o n r i j e f ((holds kept i e).1 s) ((holds kept j f).1 t) u v (same_key i j) refl;
  open_only = λ k e s cancelled j f t. open_only k e ((holds kept k e).1 s) cancelled j f ((holds kept j f).1 t) (same_key k j) refl;
}
  where
    once : (o : Key) (n : ℕ) → IsTrue (is_refill n) → (i j : Key) (e f : Entry) → c.at i ≡ Some e → c.at j ≡ Some f → Takes o n i e → Takes o n j f
        → (b : Bool) → same_key i j ≡ b → i ≡ j
    once o n r i j e f s t u v true h = is_same i j h
    once o n r i j e f s t u v false h = absurd (((kept.fits i e s).apart j f (other_key i j h) t).once o n r u v)

    open_only : (k : Key) (e : Entry) → c.at k ≡ Some e → IsTrue e.cancelled → (j : Key) (f : Entry) → c.at j ≡ Some f → (b : Bool) → same_key k j ≡ b → f.origin ≢ Some k
    open_only k e s cancelled j f t true h = λ from. (kept.fits j f t).not_itself (from ∙ ap Some (is_same k j h))
    open_only k e s cancelled j f t false h = ((kept.fits k e s).apart j f (other_key k j h) t).open_first cancelled
