-- What a search by halving learns of rows that rise by key. Assumes nothing.
use Rattle.std.proofs.Common.{◌≡◌, ℕ, zero, suc, ◌+◌, ◌<◌, ◌≤◌, List, [], ◌∷◌, length, get_or, Ordering, Less, Equal, Greater, refl, sym, ap, ◌∙◌, inl, inr, arith}
use Rattle.std.proofs.Math.ListN.{get_or-map}
use Rattle.std.proofs.lemmas.Bool.{cases_lt}
use Rattle.std.proofs.lemmas.List.{get_or_default}
use Rattle.std.proofs.lemmas.Map.Entries.{length-keys_of}
use Rattle.std.proofs.lemmas.Map.Keys.{Less-from_sorted}
use Rattle.std.specs.Cmp.{IsTotalOrder}
use Rattle.std.specs.List.{AllWithin}
use Rattle.std.specs.List.Sorted.{IsStrictlySortedBy}
use Rattle.std.specs.Map.{keys_of}
use Rattle.std.specs.Ordering.{ordering_reverse}
use Rattle.ordered.specs.Searches.{EndsAt}

module _ {K V : Type 0} (R : K → K → Ordering) (k : K) where
  -- told place by place
  pub ends : (es : List (K × V)) (i : ℕ) (r : Ordering) → i ≤ length es → AllWithin (λ e. R k e.0 ≡ Greater) es 0 i → ((d : K × V) → i < length es → R k (get_or es i d).0 ≡ r) → (i ≡ length es → r ≡ Less)
      → EndsAt R k es i r
  ends [] zero r l before here past = past refl
  ends [] (suc i) r l before here past = absurd (omega arith)
  ends (e ∷ es) zero r l before here past = here e (omega arith)
  ends (e ∷ es) (suc i) r l before here past =
      (before 0 e (omega arith) (omega arith), ends es i r (omega arith) (λ j d a b. before (suc j) d (omega arith) (omega arith)) (λ d h. here d (omega arith)) (λ h. past (ap suc h)))

module _ {K V : Type 0} {R : K → K → Ordering} (o : IsTotalOrder R) (k : K) (es : List (K × V)) (s : IsStrictlySortedBy R (keys_of es)) (m : ℕ) (within : m < length es) (d : K × V) where
  abbrev key : K × V → K
  key e = e.0

  -- an earlier key is below a later one
  rises : (i j : ℕ) (c : K × V) → i < j → j < length es → R (get_or es i c).0 (get_or es j c).0 ≡ Less
  rises i j c p q =
      sym (λ t. R (get_or-map key es i c t) (get_or-map key es j c t)) ∙ Less-from_sorted {K = K} R (keys_of es) i j c.0 s p (rw (length-keys_of es) q)

  -- what k compares to at m, told of any place that is m
  at_m : (r : Ordering) → R k (get_or es m d).0 ≡ r → (j : ℕ) (c : K × V) → j ≡ m → R k (get_or es j c).0 ≡ r
  at_m r h j c same = ap (λ i. R k (get_or es i c).0) same ∙ ap (λ (e : K × V). R k e.0) (get_or_default es m c d within) ∙ h

  turned : (x y : K) (r : Ordering) → R x y ≡ r → R y x ≡ ordering_reverse r
  turned x y r h = o.antisymm y x ∙ ap ordering_reverse h

  pub less_on : R k (get_or es m d).0 ≡ Less → AllWithin (λ e. R k e.0 ≡ Less) es m (length es)
  less_on h j c a b = elim (cases_lt m j) [
    | inl p ↦ o.trans k _ _ (at_m Less h m c refl) (rises m j c p b)
    | inr p ↦ at_m Less h j c (omega arith)
  ]

  pub greater_up_to : R k (get_or es m d).0 ≡ Greater → AllWithin (λ e. R k e.0 ≡ Greater) es 0 (m + 1)
  greater_up_to h j c a b = elim (cases_lt j m) [
    | inl p ↦ turned _ k Less (o.trans _ _ k (rises j m c p within) (turned k _ Greater (at_m Greater h m c refl)))
    | inr p ↦ at_m Greater h j c (omega arith)
  ]

  pub greater_before : R k (get_or es m d).0 ≡ Equal → AllWithin (λ e. R k e.0 ≡ Greater) es 0 m
  greater_before h j c a b = o.congr k (get_or es m c).0 _ (at_m Equal h m c refl) ∙ turned _ _ Less (rises j m c b within)

  pub equal_at : R k (get_or es m d).0 ≡ Equal → (c : K × V) → R k (get_or es m c).0 ≡ Equal
  equal_at h c = at_m Equal h m c refl
