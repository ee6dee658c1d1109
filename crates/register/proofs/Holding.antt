-- What a list of entries holds, of which no two have the same key. Assumes nothing.
use Rattle.std.proofs.Common.{◌≡◌, ◌≢◌, ℕ, ◌≤◌, Bool, true, false, cond, ◌&&◌, not, List, [], ◌∷◌, length, Option, Some, None, is_some, slice_get, ◌||◌, suc, refl, sym, ap, ◌∙◌, subst, arith, rules}
use Rattle.std.proofs.lemmas.Bool.{false≢true, both_ways, not-true}
use Rattle.std.proofs.lemmas.Map.Entries.{length-keys_of, place_from_lookup, lookup_from_place}
use Rattle.std.proofs.lemmas.Map.Keys.{any_passes_from_place}
use Rattle.std.proofs.lemmas.Option.{none-some, same_Some}
use Rattle.std.specs.List.{IsDistinct, list_any}
use Rattle.std.specs.Map.{keys_of, lookup}
use Rattle.std.specs.Prelude.{◌↔◌, IsTrue, IsSomeAnd}
use Rattle.register.specs.Contents.{Contents, IsFinite, holding, Elsewhere, DispensedElsewhere, TakenElsewhere}
use Rattle.register.specs.Entries.{is_from, source, Takes, dispenses, takes_for}
use Rattle.register.specs.Keys.{same_key}
use Rattle.register.specs.declared.entry.Entry.{Entry}
use Rattle.register.specs.declared.key.Key.{Key}
use Rattle.register.proofs.Sameness.{same_equiv, same_itself, is_same}

abbrev Rows : Type 0
Rows = List (Key × Entry)

these : (es : Rows) (k : Key) → is_some (lookup (same_key k) es) ≡ list_any (same_key k) (keys_of es)
these [] k = refl
these (e ∷ es) k = elim (same_key k e.0) as (λ b. is_some (cond b (Some e.1) (lookup (same_key k) es)) ≡ (b || list_any (same_key k) (keys_of es))) [ true ↦ refl | false ↦ these es k ]

pub finite : (es : Rows) (n : ℕ) → IsDistinct same_key (keys_of es) → length es ≤ n → IsFinite (holding es n)
finite es n d h = record { keys = keys_of es; distinct = d; these = these es; counted = sym (length-keys_of es); within = h }

-- a row that passes a test
abbrev Passing : (Key × Entry → Bool) → Rows → Type 0
Passing test es = (i : ℕ) × (row : Key × Entry) × (slice_get es i ≡ Some row) × (test row ≡ true)

first_or_later : (test : Key × Entry → Bool) (e : Key × Entry) (es : Rows) (b : Bool) → test e ≡ b → (b || list_any test es) ≡ true → (list_any test es ≡ true → Passing test es) → Passing test (e ∷ es)
first_or_later test e es true p q later = (0, e, refl, p)
first_or_later test e es false p q later = let r = later q in (suc r.0, r.1, r.2, r.3)

passing : (test : Key × Entry → Bool) (es : Rows) → list_any test es ≡ true → Passing test es
passing test [] h = absurd (false≢true h)
passing test (e ∷ es) h = first_or_later test e es (test e) refl h (passing test es)

-- a test that tells of a row whether P holds of it and its key is another than j
module _ (es : Rows) (n : ℕ) (d : IsDistinct same_key (keys_of es)) (j : Key) (P : Key → Entry → Type 0) (test : Key × Entry → Bool) where
  abbrev pub Tells : Type 0
  Tells = (own : Key) (e : Entry) → (test (own, e) ≡ true) ↔ ((own ≢ j) × P own e)

  found : Tells → (own : Key) (o : Option Entry) → lookup (same_key own) es ≡ o → own ≢ j → IsSomeAnd o (P own) → list_any test es ≡ true
  found tells own None same apart h = absurd h
  found tells own (Some e) same apart h =
      let (i, k, at, is) = place_from_lookup (same_key own) es e same in
      any_passes_from_place test es i (k, e) at ((tells k e).1 (subst (λ q. (q ≢ j) × P q e) (is_same own k is) (apart, h)))

  pub elsewhere : Tells → IsTrue (list_any test es) ↔ Elsewhere (holding es n) j P
  elsewhere tells = (
    λ h.
        let r = passing test es h in
        let told = (tells r.1.0 r.1.1).0 r.3 in
        (r.1.0, told.0, subst (λ o. IsSomeAnd o (P r.1.0)) (sym (lookup_from_place same_equiv es r.0 r.1.0 r.1.1 d r.2)) told.1),
    λ h. found tells h.0 (lookup (same_key h.0) es) refl h.1 h.2,
  )

is_other : (a b : Key) → (not (same_key a b) ≡ true) ↔ (a ≢ b)
is_other a b = (λ h e. both_ways (same_key a b) (not-true (same_key a b) h) (ap (λ q. same_key a q) (sym e) ∙ same_itself a), λ h. other (same_key a b) (λ e. h (is_same a b e)))
  where
    other : (b : Bool) → (b ≡ true → ⊥) → not b ≡ true
    other false h = refl
    other true h = absurd (h refl)

is_from_key : (o : Option Key) (k : Key) → (is_from o k ≡ true) ↔ (o ≡ Some k)
is_from_key None k = (λ h. absurd (false≢true h), λ h. absurd (none-some k h))
is_from_key (Some o) k = (λ h. ap Some (is_same o k h), λ h. ap (λ q. same_key o q) (sym (same_Some o k h)) ∙ same_itself o)

both : (a b : Bool) → ((a && b) ≡ true) ↔ ((a ≡ true) × (b ≡ true))
both true b = (λ h. (refl, h), λ h. h.1)
both false b = (λ h. absurd (false≢true h), λ h. absurd (false≢true h.0))

module _ (es : Rows) (n : ℕ) (d : IsDistinct same_key (keys_of es)) where
  pub dispensed : (k : Key) → IsTrue (list_any (λ row. dispenses k row.0 row.1) es) ↔ DispensedElsewhere (holding es n) k
  dispensed k = elsewhere es n d k (λ _ e. e.origin ≡ Some k) _ (λ own e. (
    λ h. let p = (both _ _).0 h in ((is_other own k).0 p.0, (is_from_key e.origin k).0 p.1),
    λ h. (both _ _).1 ((is_other own k).1 h.0, (is_from_key e.origin k).1 h.1),
  ))

  pub taken : (k : Key) (m : ℕ) (j : Key) → IsTrue (list_any (λ row. takes_for k m j row.0 row.1) es) ↔ TakenElsewhere (holding es n) k m j
  taken k m j = elsewhere es n d j (Takes k m) _ (λ own e. (
    λ h. let p = (both _ _).0 h in let q = (both _ _).0 p.1 in ((is_other own j).0 p.0, ((is_from_key (source own e) k).0 q.0, q.1)),
    λ h. (both _ _).1 ((is_other own j).1 h.0, (both _ _).1 ((is_from_key (source own e) k).1 h.1.0, h.1.1)),
  ))
