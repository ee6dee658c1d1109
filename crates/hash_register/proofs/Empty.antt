-- A table of empty slots. Assumes nothing.
use Rattle.std.proofs.Common.{◌≡◌, ℕ, zero, suc, ◌+◌, ◌≤◌, List, [], length, None, replicate, sym, refl, ap, ◌∙◌, subst, arith}
use Rattle.std.proofs.lemmas.List.{length-replicate}
use Rattle.std.proofs.lemmas.Option.{none-some}
use Rattle.std.specs.List.{IsDistinct}
use Rattle.std.specs.Map.{keys_of, lookup}
use Rattle.register.specs.Contents.{empty}
use Rattle.register.specs.Keys.{same_key}
use Rattle.hash_register.specs.Homes.{homes}
use Rattle.hash_register.specs.Slots.{Slot, slot, held}
use Rattle.hash_register.specs.Tables.{IsTable, table_contents}

slot-empty : (n i : ℕ) → slot (replicate n None) i ≡ None
slot-empty zero i = refl
slot-empty (suc n) zero = refl
slot-empty (suc n) (suc i) = slot-empty n i

held-empty : (n : ℕ) → held (replicate n None) ≡ []
held-empty zero = refl
held-empty (suc n) = held-empty n

distinct_none : IsDistinct same_key []
unfolding IsDistinct
distinct_none = tt

module _ (m n : ℕ) (xs : List Slot) (is : xs ≡ replicate n None) where
  nothing : held xs ≡ []
  nothing = ap held is ∙ held-empty n

  pub table_of_none : m ≤ 65536 → n ≡ homes m + m → IsTable m 0 xs
  table_of_none small long = record {
    distinct = subst (λ es. IsDistinct same_key (keys_of es)) (sym nothing) distinct_none;
    reached = λ p at_p. absurd (none-some (p.1, p.2) (sym (ap (λ ys. slot ys p.0) is ∙ slot-empty n p.0) ∙ at_p));
    counted = sym (ap length nothing);
    within = omega arith;
    small = small;
    size = ap length is ∙ length-replicate n None ∙ long;
  }

  pub contents_of_none : (most : ℕ) → m ≡ most → table_contents m 0 xs ≡ empty most
  contents_of_none most same = λ i. record { at = λ k. lookup (same_key k) (nothing i); count = 0; most = same i }
