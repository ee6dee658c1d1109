-- What a sender has of two uses in which its calls and what they see are alike. Assumes nothing.
use Rattle.std.proofs.Common.{◌≡◌, ◌≢◌, ◌↔◌, ℕ, Bool, true, false, ◌&&◌, ◌||◌, List, inl, inr, Option, Some, None, is_some, refl, sym, ap, ◌∙◌}
use Rattle.std.proofs.lemmas.Bool.{false≢true}
use Rattle.std.proofs.lemmas.Option.{none-some}
use Rattle.std.specs.Option.{option_map_or}
use Rattle.std.specs.Prelude.{IsTrue, IsSomeAnd}
use Rattle.calendar.specs.Calendar.{Date}
use Rattle.faults.specs.declared.rules.Rule.{Rule}
use Rattle.faults.specs.declared.rules.Rule.TheVariants.{Unmatched, Late, Dispensed, Prescription, Uncancellable, NoRoom}
use Rattle.register.specs.Contents.{Contents, DispensedElsewhere, TakenElsewhere}
use Rattle.register.specs.Entries.{source}
use Rattle.register.specs.Keys.{same_key}
use Rattle.register.specs.Refills.{is_refill, has_refill}
use Rattle.register.specs.declared.entry.Entry.{Entry}
use Rattle.register.specs.declared.key.Key.{Key}
use Rattle.filings.specs.declared.filing.Deed.{Deed}
use Rattle.filings.specs.declared.filing.Deed.TheVariants.{Visit, Cancel, Delete}
use Rattle.filings.specs.declared.filing.Filing.{Filing}
use Rattle.settling.proofs.Lowest.{same_number}
use Rattle.settling.proofs.Histories.{dispensed, taken}
use Rattle.settling.specs.Against.{Against, is_kept, is_unfit, origin_fails, Unfillable, is_unmatched, is_late, is_uncancellable}
use Rattle.settling.specs.Verdicts.{IsLowest}
use Rattle.settling.specs.Standing.{Holds}
use Rattle.receiving.specs.Sights.{SamePrescription, SameRefills, SameClaims, SameSight}

-- one register and another, which hold what stands after gs and after hs
module _ (gs hs : List Filing) (c d : Contents) (here : Holds gs c) (there : Holds hs d) where
  -- a prescription that is seen alike
  module _ (o : Key) (same : SamePrescription gs hs o) (e : Entry) where
    seen : (a b : Option Entry) → c.at o ≡ a → d.at o ≡ b → option_map_or (is_unfit e) a false ≡ option_map_or (is_unfit e) b false
    seen None None p q = refl
    seen None (Some f) p q =
        let s = same.here f ((there o f).0 q) in
        absurd (none-some _ (sym p ∙ (here o s.entry).1 s.stands))
    seen (Some f) b p q =
        let s = same.there f ((here o f).0 p) in
        let is : b ≡ Some s.entry = sym q ∙ (there o s.entry).1 s.stands in
        sym (ap (λ x. option_map_or (is_unfit e) x false) is ∙ (λ i. unfit (s.mark i) (s.times i)))
      where
        unfit : Bool → ℕ → Bool
        unfit m t = is_unfit e (record f { cancelled = m; times = t })

  -- a visit that takes refills and has an origin that are seen alike
  module _ (k : Key) (e : Entry) (same : SameRefills gs hs k e) where
    origin_alike : (o : Option Key) → e.origin ≡ o
        → option_map_or (λ j. same_key j k || option_map_or (is_unfit e) (c.at j) false) o false ≡ option_map_or (λ j. same_key j k || option_map_or (is_unfit e) (d.at j) false) o false
    origin_alike None p = refl
    origin_alike (Some o) p = ap (λ b. same_key o k || b) (seen o (same.origin o p) e (c.at o) (d.at o) refl refl)

    taken_alike : (n : ℕ) → IsTrue (is_refill n && has_refill e.refills n) → (o : Option Key) → source k e ≡ o
        → IsSomeAnd o (λ j. TakenElsewhere c j n k) ↔ IsSomeAnd o (λ j. TakenElsewhere d j n k)
    taken_alike n r None p = (λ h. h, λ h. h)
    taken_alike n r (Some o) p =
        let s = same.taken n o r p in
        (λ h. (taken hs d there o k n).0 (s.0 ((taken gs c here o k n).1 h)), λ h. (taken gs c here o k n).0 (s.1 ((taken hs d there o k n).1 h)))

    unfillable : Unfillable c k (Visit e) ↔ Unfillable d k (Visit e)
    unfillable = (to, back)
      where
        fails : origin_fails c k e ≡ origin_fails d k e
        fails = origin_alike e.origin refl

        to : Unfillable c k (Visit e) → Unfillable d k (Visit e)
        to (inl h) = inl (sym fails ∙ h)
        to (inr (n, r, t)) = inr (n, r, (taken_alike n r (source k e) refl).0 t)

        back : Unfillable d k (Visit e) → Unfillable c k (Visit e)
        back (inl h) = inl (fails ∙ h)
        back (inr (n, r, t)) = inr (n, r, (taken_alike n r (source k e) refl).1 t)

  -- a filing that both see alike, where what stands under its key is the same
  module _ (today : Date) (q : Filing) (own : c.at q.key ≡ d.at q.key) (sight : SameSight gs hs q) where
    under : (o : Option Entry) → c.at q.key ≡ o → IsTrue (is_some o) → DispensedElsewhere c q.key ↔ DispensedElsewhere d q.key
    under None p h = absurd (false≢true h)
    under (Some e) p h =
        let s = sight.dispensed e e ((here q.key e).0 p) ((there q.key e).0 (sym own ∙ p)) in
        (λ x. (dispensed hs d there q.key).0 (s.0 ((dispensed gs c here q.key).1 x)), λ x. (dispensed gs c here q.key).0 (s.1 ((dispensed hs d there q.key).1 x)))

    claims : (a : Deed) → SameClaims gs hs q.key a → IsTrue (is_kept q.key a) → Unfillable c q.key a ↔ Unfillable d q.key a
    claims (Visit e) s k = unfillable q.key e (s k)
    claims (Cancel p) s k = (λ h. h, λ h. h)
    claims (Delete p) s k = (λ h. h, λ h. h)

    both : (a b : Bool) → IsTrue (a && b) → IsTrue a × IsTrue b
    both true b h = (refl, h)
    both false b h = absurd (false≢true h)

    pub same_against : (r : Rule) → r ≢ NoRoom → Against c today q r ↔ Against d today q r
    same_against Unmatched h = (λ x. ap (is_unmatched q.deed) (sym own) ∙ x, λ x. ap (is_unmatched q.deed) own ∙ x)
    same_against Late h = (λ x. ap (is_late today q.deed) (sym own) ∙ x, λ x. ap (is_late today q.deed) own ∙ x)
    same_against Dispensed h = (
      λ x. (ap (λ o. is_kept q.key q.deed && is_some o) (sym own) ∙ x.0, (under (c.at q.key) refl (both _ _ x.0).1).0 x.1),
      λ x. let y = ap (λ o. is_kept q.key q.deed && is_some o) own ∙ x.0 in (y, (under (c.at q.key) refl (both _ _ y).1).1 x.1),
    )
    same_against Prescription h = (λ x. (x.0, (claims q.deed sight.claims x.0).0 x.1), λ x. (x.0, (claims q.deed sight.claims x.0).1 x.1))
    same_against Uncancellable h = (λ x. ap (is_uncancellable q.deed) (sym own) ∙ x, λ x. ap (is_uncancellable q.deed) own ∙ x)
    same_against NoRoom h = absurd (h refl)
    same_against _ h = (λ x. absurd x, λ x. absurd x)

-- but for the rule 35, two verdicts on what is alike are the same
pub same_but : (P Q : Rule → Type 0) (v w : Option Rule) → ((r : Rule) → r ≢ NoRoom → P r ↔ Q r) → v ≢ Some NoRoom → w ≢ Some NoRoom → IsLowest P v → IsLowest Q w → v ≡ w
same_but P Q None None e h k x y = refl
same_but P Q None (Some r) e h k x y = absurd (x r ((e r (λ p. k (ap Some p))).1 y.0))
same_but P Q (Some r) None e h k x y = absurd (y r ((e r (λ p. h (ap Some p))).0 x.0))
same_but P Q (Some r) (Some o) e h k x y = ap Some (same_number r o (x.1 o ((e o (λ p. k (ap Some p))).1 y.0)) (y.1 r ((e r (λ p. h (ap Some p))).0 x.0)))
