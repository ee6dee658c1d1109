-- What stands in one slot, put into an earlier one. Assumes nothing.
use Rattle.std.proofs.Common.{◌≡◌, ◌≢◌, ℕ, ◌<◌, ◌≤◌, true, List, ◌∷◌, length, slice_set, Some, None, is_some, IsSomeAnd, sym, refl, ap, ◌∙◌, subst, arith}
use Rattle.std.proofs.lemmas.List.{set_comm, get_or-set_other, length-set}
use Rattle.std.proofs.lemmas.List.Sorted.{IsPermutation-sym, IsPermutation-trans}
use Rattle.std.specs.List.Sorted.{IsPermutation}
use Rattle.hash_register.proofs.Held.{parted, parted_here, within}
use Rattle.hash_register.proofs.Reached.{filled_reached}
use Rattle.hash_register.specs.Homes.{home}
use Rattle.hash_register.specs.Slots.{Slot, slot, held, IsReached, Follows}

-- ys is xs with a second copy in the slot g of what stands in the slot i
pub record IsMoved (n : ℕ) (xs : List Slot) (g i : ℕ) (ys : List Slot) : Type 0 where
  pub inside : i < length ys
  pub filled : is_some (slot ys i) ≡ true
  pub reached : IsReached n ys
  pub others : IsPermutation (held (slice_set ys i None)) (held (slice_set xs g None))

pub moved : (n : ℕ) (xs : List Slot) (g i : ℕ) → IsReached n xs → g < length xs → Follows n xs g i → IsMoved n xs g i (slice_set xs g (slot xs i))
moved n xs g i reached l (past, follows) = go (slot xs i) refl follows
  where
    go : (s : Slot) → slot xs i ≡ s → IsSomeAnd s (λ r. home n r.0 ≤ g) → IsMoved n xs g i (slice_set xs g s)
    go None is h = absurd h
    go (Some r) is h =
        let run = reached (i, r.0, r.1) is in
        let off : i ≢ g = omega arith in
        let stays : slot (slice_set xs g (Some r)) i ≡ Some r = get_or-set_other xs g i (Some r) None off ∙ is in
        let rest = parted_here (slice_set xs g None) i r (within (slice_set xs g None) i r (get_or-set_other xs g i None None off ∙ is)) (get_or-set_other xs g i None None off ∙ is) in
        let others = parted (slice_set xs i None) g (Some r) (omega (arith, length-set xs i None)) in
        record {
          inside = within (slice_set xs g (Some r)) i r stays;
          filled = ap is_some stays;
          reached = filled_reached xs g n reached l r.0 r.1 (record { ordered = h; filled = λ j from to. run.filled j from (omega arith) });
          others = IsPermutation-trans _ _ _
              (subst (λ ys. IsPermutation (held ys) (r ∷ held (slice_set (slice_set xs i None) g None))) (set_comm xs i g None (Some r) off) (IsPermutation-sym _ _ others))
              (subst (λ ys. IsPermutation (r ∷ held ys) (held (slice_set xs g None))) (sym (set_comm xs i g None None off)) rest);
        }
