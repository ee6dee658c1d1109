-- What slots hold, before and after one of them is written. Assumes nothing.
use Rattle.std.proofs.Common.{◌≡◌, ℕ, zero, suc, ◌+◌, ◌<◌, ◌≤◌, Bool, true, false, cond, ◌||◌, List, [], ◌∷◌, ◌++◌, length, slice_index_or, slice_set, Option, Some, None, is_some, sym, refl, ap, ◌∙◌, subst, arith}
use Rattle.std.proofs.lemmas.Bool.{false≢true}
use Rattle.std.proofs.lemmas.List.{set-get_or, get_or_default}
use Rattle.std.proofs.lemmas.List.Sorted.{IsPermutation-refl, IsPermutation-sym, IsPermutation-cons, IsPermutation-trans, IsPermutation-middle, IsPermutation-map, length_permutation, Contains-permutation, list_any-IsPermutation}
use Rattle.std.proofs.lemmas.Map.{NonePasses, lookup-none, none_passes_from_lookup, update_same, update_other}
use Rattle.std.proofs.lemmas.Map.Entries.{none_past_head}
use Rattle.std.proofs.lemmas.Map.Keys.{IsDistinct-IsPermutation, IsDistinct-tail, IsDistinct-cons}
use Rattle.std.proofs.lemmas.Map.Made.{is_some-lookup}
use Rattle.std.proofs.lemmas.Map.Views.{lookup-from_Contains, Contains-from_lookup}
use Rattle.std.proofs.lemmas.Option.{none-some, same_Some}
use Rattle.std.specs.List.{IsDistinct, AllByRecursion, list_any}
use Rattle.std.specs.List.Sorted.{IsPermutation}
use Rattle.std.specs.Map.{lookup, keys_of, update}
use Rattle.std.specs.Option.{option_to_list}
use Rattle.register.proofs.Sameness.{same_equiv, is_same}
use Rattle.register.specs.Keys.{same_key}
use Rattle.register.specs.declared.entry.Entry.{Entry}
use Rattle.register.specs.declared.key.Key.{Key}
use Rattle.hash_register.specs.Slots.{Slot, slot, held, passes}

abbrev pub at : List (Key × Entry) → Key → Option Entry
at es k = lookup (same_key k) es

-- ---- one slot

-- beside what the slot i has, the slots hold the rest
pub parted : (xs : List Slot) (i : ℕ) (s : Slot) → i < length xs → IsPermutation (option_to_list s ++ held (slice_set xs i None)) (held (slice_set xs i s))
parted [] i s h = absurd (omega arith)
parted (x ∷ xs) zero None h = IsPermutation-refl _
parted (x ∷ xs) zero (Some r) h = IsPermutation-refl _
parted (None ∷ xs) (suc i) s h = parted xs i s (omega arith)
parted (Some t ∷ xs) (suc i) None h = IsPermutation-refl _
parted (Some t ∷ xs) (suc i) (Some r) h =
    IsPermutation-trans _ _ _ (IsPermutation-middle (r ∷ []) t (held (slice_set xs i None))) (IsPermutation-cons t _ _ (parted xs i (Some r) (omega arith)))

pub parted_here : (xs : List Slot) (i : ℕ) (r : Key × Entry) → i < length xs → slot xs i ≡ Some r → IsPermutation (r ∷ held (slice_set xs i None)) (held xs)
parted_here xs i r h is = subst (λ ys. IsPermutation (r ∷ held (slice_set xs i None)) (held ys)) (ap (slice_set xs i) (sym is) ∙ set-get_or xs i None) (parted xs i (Some r) h)

-- an empty slot holds nothing
pub parted_empty : (xs : List Slot) (i : ℕ) → slot xs i ≡ None → slice_set xs i None ≡ xs
parted_empty xs i is = ap (slice_set xs i) (sym is) ∙ set-get_or xs i None

-- ---- what is found

pub is_nothing : (o : Option Entry) → is_some o ≡ false → o ≡ None
is_nothing None h = refl
is_nothing (Some e) h = absurd (false≢true (sym h))

distinct_permutation : (es fs : List (Key × Entry)) → IsPermutation es fs → IsDistinct same_key (keys_of es) → IsDistinct same_key (keys_of fs)
distinct_permutation es fs p = IsDistinct-IsPermutation same_key same_equiv.symm _ _ (IsPermutation-map (λ (r : Key × Entry). r.0) es fs p)

at_permutation : (es fs : List (Key × Entry)) → IsPermutation es fs → IsDistinct same_key (keys_of fs) → (q : Key) → at fs q ≡ at es q
at_permutation es fs p d q = go (at es q) refl
  where
    go : (o : Option Entry) → at es q ≡ o → at fs q ≡ o
    go None h = is_nothing _ (is_some-lookup (same_key q) fs ∙ sym (list_any-IsPermutation (same_key q) _ _ (IsPermutation-map (λ (r : Key × Entry). r.0) es fs p)) ∙ sym (is_some-lookup (same_key q) es) ∙ ap is_some h)
    go (Some e) h = lookup-from_Contains same_equiv q e fs d (Contains-permutation es fs (q, e) p (Contains-from_lookup is_same q e es h))

apart : (k : Key) (es : List (Key × Entry)) → NonePasses (same_key k) es → AllByRecursion (λ y. same_key k y ≡ false) (keys_of es)
apart k [] h = tt
apart k (e ∷ es) h = (h.0, apart k es h.1)

-- fs holds what es does, and e under k
module _ (k : Key) (e : Entry) (es fs : List (Key × Entry)) (p : IsPermutation ((k, e) ∷ es) fs) where
  pub length_more : length fs ≡ length es + 1
  length_more = omega (arith, length_permutation _ fs p)

  pub distinct_more : IsDistinct same_key (keys_of es) → at es k ≡ None → IsDistinct same_key (keys_of fs)
  distinct_more d none = distinct_permutation _ fs p (IsDistinct-cons same_key k (keys_of es) (apart k es (none_passes_from_lookup (same_key k) es none)) d)

  module _ (d : IsDistinct same_key (keys_of fs)) where
    both : IsDistinct same_key (keys_of ((k, e) ∷ es))
    both = distinct_permutation fs _ (IsPermutation-sym _ _ p) d

    pub distinct_rest : IsDistinct same_key (keys_of es)
    distinct_rest = IsDistinct-tail same_key k (keys_of es) both

    pub absent_rest : at es k ≡ None
    absent_rest = lookup-none (same_key k) es (none_past_head same_equiv k (k, e) es both (same_equiv.refl k))

    pub at_more : (q : Key) → at fs q ≡ update same_key (at es) k (Some e) q
    at_more q = at_permutation _ fs p d q ∙ ap (λ b. cond b (Some e) (at es q)) (same_equiv.symm q k)

    pub at_less : (q : Key) → at es q ≡ update same_key (at fs) k None q
    at_less q = go (same_key k q) refl
      where
        go : (b : Bool) → same_key k q ≡ b → at es q ≡ cond b None (at fs q)
        go true h = ap (at es) (sym (is_same k q h)) ∙ absent_rest
        go false h = sym (at_more q ∙ update_other same_key (at es) k (Some e) q h)

-- ---- by places

pub within : (xs : List Slot) (i : ℕ) (r : Key × Entry) → slot xs i ≡ Some r → i < length xs
within [] i r h = absurd (none-some r h)
within (x ∷ xs) zero r h = omega arith
within (x ∷ xs) (suc i) r h = omega (arith, within xs i r h)

pub present : (xs : List Slot) (i : ℕ) (k : Key) (e : Entry) → IsDistinct same_key (keys_of (held xs)) → slot xs i ≡ Some (k, e) → at (held xs) k ≡ Some e
present xs i k e d h = at_more k e _ _ (parted_here xs i (k, e) (within xs i (k, e) h) h) d k ∙ update_same same_key (at (held (slice_set xs i None))) k (Some e) k (same_equiv.refl k)

pub place : (xs : List Slot) (k : Key) (e : Entry) → at (held xs) k ≡ Some e → (i : ℕ) × (slot xs i ≡ Some (k, e))
place [] k e h = absurd (none-some e h)
place (None ∷ xs) k e h = let (i, is) = place xs k e h in (suc i, is)
place (Some r ∷ xs) k e h = go (same_key k r.0) refl h (place xs k e)
  where
    go : (b : Bool) → same_key k r.0 ≡ b → cond b (Some r.1) (at (held xs) k) ≡ Some e → (at (held xs) k ≡ Some e → (i : ℕ) × (slot xs i ≡ Some (k, e))) → (i : ℕ) × (slot (Some r ∷ xs) i ≡ Some (k, e))
    go true t is more = (zero, let x = same_Some r.1 e is in λ j. Some (sym (is_same k r.0 t) j, x j))
    go false t is more = let (i, at_i) = more is in (suc i, at_i)

-- from the slot a on none is empty
pub filled_from : (xs : List Slot) (a : ℕ) → ((i : ℕ) → a ≤ i → i < length xs → is_some (slot xs i) ≡ true) → length xs ≤ a + length (held xs)
filled_from [] a h = omega arith
filled_from (None ∷ xs) (suc a) h = omega (arith, filled_from xs a (λ i l m. h (suc i) (omega arith) (omega arith)))
filled_from (Some r ∷ xs) (suc a) h = omega (arith, filled_from xs a (λ i l m. h (suc i) (omega arith) (omega arith)))
filled_from (None ∷ xs) zero h = absurd (false≢true (h 0 (omega arith) (omega arith)))
filled_from (Some r ∷ xs) zero h = omega (arith, filled_from xs zero (λ i l m. h (suc i) (omega arith) (omega arith)))

-- a walk over the slots meets what they hold
pub walked : (test : Key × Entry → Bool) (xs : List Slot) → list_any (passes test) xs ≡ list_any test (held xs)
walked test [] = refl
walked test (None ∷ xs) = walked test xs
walked test (Some r ∷ xs) = ap (λ b. test r || b) (walked test xs)

pub read : (xs : List Slot) (i : ℕ) (s : Slot) → i < length xs → s ≡ slice_index_or xs i s → s ≡ slot xs i
read xs i s l is = is ∙ get_or_default xs i s None l

pub read_some : (xs : List Slot) (i : ℕ) (s : Slot) (b : Bool) → i < length xs → s ≡ slice_index_or xs i s → is_some s ≡ b → is_some (slot xs i) ≡ b
read_some xs i s b l is h = ap is_some (sym (read xs i s l is)) ∙ h
