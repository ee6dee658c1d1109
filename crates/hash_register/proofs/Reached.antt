-- What a write leaves of the ways to the keys. Assumes nothing.
use Rattle.std.proofs.Common.{◌≡◌, ◌≢◌, ℕ, ◌<◌, ◌≤◌, true, List, length, slice_set, ◌⊎◌, inl, inr, Some, None, is_some, IsSomeAnd, sym, refl, ap, ◌∙◌, subst, arith}
use Rattle.std.proofs.lemmas.Bool.{cases_eq, false≢true}
use Rattle.std.proofs.lemmas.Option.{none-some, some_pair_parts}
use Rattle.std.proofs.lemmas.List.{get_or-set_same, get_or-set_other}
use Rattle.register.specs.declared.entry.Entry.{Entry}
use Rattle.register.specs.declared.key.Key.{Key}
use Rattle.hash_register.specs.Homes.{home}
use Rattle.hash_register.specs.Slots.{Slot, slot, IsRun, IsReached, Follows}

module _ (xs : List Slot) (i : ℕ) (n : ℕ) (reached : IsReached n xs) (l : i < length xs) where
  -- a key in a slot that its home's run leads to
  module _ (k : Key) (e : Entry) (run : IsRun xs (home n k) i) where
    kept_run : (a b : ℕ) → IsRun xs a b → IsRun (slice_set xs i (Some (k, e))) a b
    kept_run a b r = record {
      ordered = r.ordered;
      filled = λ j f g. elim (cases_eq j i) as (λ _. is_some (slot (slice_set xs i (Some (k, e))) j) ≡ true) [
        | inl is ↦ ap (λ x. is_some (slot (slice_set xs i (Some (k, e))) x)) is ∙ ap is_some (get_or-set_same xs i (Some (k, e)) None l)
        | inr no_t ↦ ap is_some (get_or-set_other xs i j (Some (k, e)) None no_t) ∙ r.filled j f g
      ];
    }

    pub filled_reached : IsReached n (slice_set xs i (Some (k, e)))
    filled_reached (p, q, f) is = go (cases_eq p i)
      where
        go : (p ≡ i) ⊎ (p ≢ i) → IsRun (slice_set xs i (Some (k, e))) (home n q) p
        go (inl here) =
            let same = some_pair_parts k q e f (sym (get_or-set_same xs i (Some (k, e)) None l) ∙ ap (slot (slice_set xs i (Some (k, e)))) (sym here) ∙ is) in
            kept_run (home n q) p (subst (λ x. IsRun xs (home n x) p) same.0 (subst (IsRun xs (home n k)) (sym here) run))
        go (inr other) = kept_run (home n q) p (reached (p, q, f) (sym (get_or-set_other xs i p (Some (k, e)) None other) ∙ is))

  -- an empty slot that no key past it needs
  pub emptied_reached : ((j : ℕ) → ¬ Follows n xs i j) → IsReached n (slice_set xs i None)
  emptied_reached none (p, q, f) is = go (cases_eq p i)
    where
      go : (p ≡ i) ⊎ (p ≢ i) → IsRun (slice_set xs i None) (home n q) p
      go (inl here) = absurd (none-some (q, f) (sym (get_or-set_same xs i None None l) ∙ ap (slot (slice_set xs i None)) (sym here) ∙ is))
      go (inr other) =
          let was : slot xs p ≡ Some (q, f) = sym (get_or-set_other xs i p None None other) ∙ is in
          let run = reached (p, q, f) was in
          record {
            ordered = run.ordered;
            filled = λ j from to. elim (cases_eq j i) as (λ _. is_some (slot (slice_set xs i None) j) ≡ true) [
              | inl at ↦ absurd (none p (omega arith, subst (λ s. IsSomeAnd s (λ r. home n r.0 ≤ i)) (sym was) (omega arith)))
              | inr off ↦ ap is_some (get_or-set_other xs i j None None off) ∙ run.filled j from to
            ];
          }

-- a key past an empty slot has its home past it
pub past_empty : (xs : List Slot) (n g i j : ℕ) → IsReached n xs → slot xs i ≡ None → g < i → i ≤ j → ¬ Follows n xs g j
past_empty xs n g i j reached none l m (_, follows) = go (slot xs j) refl follows
  where
    go : (s : Slot) → slot xs j ≡ s → IsSomeAnd s (λ r. home n r.0 ≤ g) → ⊥
    go None is h = h
    go (Some r) is h = elim (cases_eq i j) [
      | inl at ↦ none-some r (sym none ∙ ap (slot xs) at ∙ is)
      | inr off ↦ false≢true (ap is_some (sym none) ∙ (reached (j, r.0, r.1) is).filled i (omega arith) (omega arith))
    ]
