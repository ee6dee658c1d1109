-- What a change to a table leaves, where the search for its key has ended. Assumes nothing.
use Rattle.std.proofs.Common.{◌≡◌, ℕ, zero, suc, ◌<◌, ◌≤◌, true, false, cond, ◌||◌, ltb, List, [], ◌∷◌, length, get_or, set, Some, None, Ok, Err, is_some, Ordering, Less, Equal, Greater, refl, sym, ap, ◌∙◌, arith}
use Rattle.std.proofs.lemmas.Bool.{cond-true, cond-false, lt-ltb, le-ltb}
use Rattle.std.specs.BTreeMap.{insert_entry, is_at}
use Rattle.std.specs.Cmp.{IsTotalOrder}
use Rattle.std.specs.List.{insert, remove, AllByRecursion}
use Rattle.std.specs.List.Sorted.{IsStrictlySortedBy}
use Rattle.std.specs.Map.{keys_of, lookup, remove_entry}
use Rattle.std.specs.Ordering.{is_eq, match_ordering}
use Rattle.ordered.specs.Searches.{EndsAt}
use Rattle.ordered.specs.Tables.{Table, at, has_room, Puts, Removes}

module _ {K V : Type 0} (R : K → K → Ordering) (k : K) where
  pub looked : (e : K × V) (es : List (K × V)) (r : Ordering) → R k e.0 ≡ r → lookup (is_at (R k)) (e ∷ es) ≡ cond (is_eq r) (Some e.1) (lookup (is_at (R k)) es)
  looked e es r h = ap (λ r. cond (is_eq r) (Some e.1) (lookup (is_at (R k)) es)) h

  pub found : (es : List (K × V)) (i : ℕ) (d : K × V) → EndsAt R k es i Equal → lookup (is_at (R k)) es ≡ Some (get_or es i d).1
  found [] zero d h = absurd (grind (arith, h))
  found [] (suc i) d h = absurd h
  found (e ∷ es) zero d h = looked e es Equal h
  found (e ∷ es) (suc i) d h = looked e es Greater h.0 ∙ found es i d h.1

  pub step : (v : V) (e : K × V) (es : List (K × V)) (r : Ordering) → R k e.0 ≡ r → insert_entry R (e ∷ es) k v ≡ match_ordering r ((k, v) ∷ e ∷ es) ((e.0, v) ∷ es) (e ∷ insert_entry R es k v)
  step v e es r h = ap (λ o. match_ordering o ((k, v) ∷ e ∷ es) ((e.0, v) ∷ es) (e ∷ insert_entry R es k v)) h

  over : (v : V) (es : List (K × V)) (i : ℕ) (d : K × V) → EndsAt R k es i Equal → set es i ((get_or es i d).0, v) ≡ insert_entry R es k v
  over v [] zero d h = absurd (grind (arith, h))
  over v [] (suc i) d h = absurd h
  over v (e ∷ es) zero d h = sym (step v e es Equal h)
  over v (e ∷ es) (suc i) d h = ap (λ x. e ∷ x) (over v es i d h.1) ∙ sym (step v e es Greater h.0)

  -- the same of a row that was read
  pub over_at : (v : V) (es : List (K × V)) (i : ℕ) (e : K × V) → e ≡ get_or es i e → EndsAt R k es i Equal → set es i (e.0, v) ≡ insert_entry R es k v
  over_at v es i e is h = ap (λ (x : K × V). set es i (x.0, v)) is ∙ over v es i e h

  pub between : (v : V) (es : List (K × V)) (i : ℕ) → EndsAt R k es i Less → insert es i (k, v) ≡ insert_entry R es k v
  between v [] zero h = refl
  between v [] (suc i) h = absurd h
  between v (e ∷ es) zero h = sym (step v e es Less h)
  between v (e ∷ es) (suc i) h = ap (λ x. e ∷ x) (between v es i h.1) ∙ sym (step v e es Greater h.0)

  pub removed : (e : K × V) (es : List (K × V)) (r : Ordering) → R k e.0 ≡ r → remove_entry (is_at (R k)) (e ∷ es) ≡ cond (is_eq r) es (e ∷ remove_entry (is_at (R k)) es)
  removed e es r h = ap (λ o. cond (is_eq o) es (e ∷ remove_entry (is_at (R k)) es)) h

  pub taken : (es : List (K × V)) (i : ℕ) → EndsAt R k es i Equal → remove es i ≡ remove_entry (is_at (R k)) es
  taken [] zero h = absurd (grind (arith, h))
  taken [] (suc i) h = absurd h
  taken (e ∷ es) zero h = sym (removed e es Equal h)
  taken (e ∷ es) (suc i) h = ap (λ x. e ∷ x) (taken es i h.1) ∙ sym (removed e es Greater h.0)

  pub none_gone : (es : List (K × V)) → lookup (is_at (R k)) es ≡ None → remove_entry (is_at (R k)) es ≡ es
  none_gone [] h = refl
  none_gone (e ∷ es) h = grind (arith, none_gone es)

module _ {K V : Type 0} {R : K → K → Ordering} (o : IsTotalOrder R) (k : K) where
  pub none_above : (x : K) (es : List (K × V)) → R k x ≡ Less → AllByRecursion (λ y. R x y ≡ Less) (keys_of es) → lookup (is_at (R k)) es ≡ None
  none_above x [] h a = refl
  none_above x (e ∷ es) h a = looked R k e es Less (o.trans k x e.0 h a.0) ∙ none_above x es h a.1

  pub missing : (es : List (K × V)) (i : ℕ) → IsStrictlySortedBy R (keys_of es) → EndsAt R k es i Less → lookup (is_at (R k)) es ≡ None
  unfolding IsStrictlySortedBy
  missing [] i s h = refl
  missing (e ∷ es) zero s h = looked R k e es Less h ∙ none_above e.0 es h s.0
  missing (e ∷ es) (suc i) s h = looked R k e es Greater h.0 ∙ missing es i s.1 h.1

module _ {K V : Type 0} (R : K → K → Ordering) (k : K) (t : Table K V) (i : ℕ) where
  pub took : (e : K × V) → e ≡ get_or t.entries i e → EndsAt R k t.entries i Equal → Removes R t k (Some e.1) (record { entries = remove t.entries i; most = t.most })
  took e is h = record {
    answer = ap (λ (x : K × V). Some x.1) is ∙ sym (found R k t.entries i e h);
    after = λ j. record { entries = taken R k t.entries i h j; most = t.most };
  }

pub took_none : {K V : Type 0} {R : K → K → Ordering} (o : IsTotalOrder R) (k : K) (t : Table K V) (i : ℕ) → IsStrictlySortedBy R (keys_of t.entries) → EndsAt R k t.entries i Less → Removes R t k None t
took_none {R = R} o k t i s h =
    let gone = missing o k t.entries i s h in
    record { answer = sym gone; after = λ j. record { entries = sym (none_gone R k t.entries gone) j; most = t.most } }

module _ {K V : Type 0} {R : K → K → Ordering} (o : IsTotalOrder R) (t : Table K V) (k : K) (v : V) (i : ℕ) where
  with_room : has_room R t k ≡ true → Puts R t k v (Ok (at R t k)) (record { entries = insert_entry R t.entries k v; most = t.most })
  with_room h = record { answer = sym (cond-true _ _ _ h); after = sym (cond-true _ _ _ h) }

  pub put_over : (e : K × V) → e ≡ get_or t.entries i e → EndsAt R k t.entries i Equal → Puts R t k v (Ok (Some e.1)) (record { entries = set t.entries i (e.0, v); most = t.most })
  put_over e is h =
      let here = found R k t.entries i e h in
      rw (over_at R k v t.entries i e is h, ap (λ (x : K × V). Some x.1) is, ← here) (with_room (ap (λ x. is_some x || ltb (length t.entries) t.most) here))

  module _ (s : IsStrictlySortedBy R (keys_of t.entries)) (h : EndsAt R k t.entries i Less) where
    pub put_new : length t.entries < t.most → Puts R t k v (Ok None) (record { entries = insert t.entries i (k, v); most = t.most })
    put_new room =
        let gone = missing o k t.entries i s h in
        rw (← gone, between R k v t.entries i h) (with_room (ap (λ x. is_some x || ltb (length t.entries) t.most) gone ∙ lt-ltb _ _ room))

    pub put_full : t.most ≤ length t.entries → Puts R t k v (Err (k, v)) t
    put_full full =
        let none : has_room R t k ≡ false = ap (λ x. is_some x || ltb (length t.entries) t.most) (missing o k t.entries i s h) ∙ le-ltb _ _ full in
        record { answer = sym (cond-false _ _ _ none); after = sym (cond-false _ _ _ none) }
