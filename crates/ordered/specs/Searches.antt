-- Where a search among rows that rise by key ends. Assumes nothing.
--     EndsAt cmp k rows i r   the keys of the rows before i are below k, and k compares as r to the key of the row i; behind the last row
--                             it is Less
use Rattle.std.specs.Prelude.{◌≡◌, ℕ, zero, suc, List, [], ◌∷◌}
use Rattle.std.specs.declared.cmp.Ordering.{Ordering}
use Rattle.std.specs.declared.cmp.Ordering.TheVariants.{Less, Greater}

module _ {K V : Type 0} (cmp : K → K → Ordering) (k : K) where
  abbrev pub EndsAt : List (K × V) → ℕ → Ordering → Type 0
  EndsAt [] zero r = r ≡ Less
  EndsAt [] (suc i) r = ⊥
  EndsAt (e ∷ es) zero r = cmp k e.0 ≡ r
  EndsAt (e ∷ es) (suc i) r = (cmp k e.0 ≡ Greater) × EndsAt es i r
