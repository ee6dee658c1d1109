-- A rule of a list's entries and their places, by one test that is computed. Assumes nothing.
use Rattle.std.proofs.Common.{◌≡◌, ℕ, zero, suc, ◌+◌, Bool, true, ◌&&◌, List, [], ◌∷◌, Some, arith}
use Rattle.std.proofs.lemmas.Bool.Decides.{nat_tests}
use Rattle.std.specs.List.{slice_get}

module _ {X : Type 0} (test : ℕ → X → Bool) where
  -- it passes at each entry and its place, counted from n
  abbrev pub every : ℕ → List X → Bool
  every n [] = true
  every n (x ∷ xs) = test n x && every (n + 1) xs

  pub at_place : (n k m : ℕ) (xs : List X) (x : X) → every n xs ≡ true → slice_get xs k ≡ Some x → n + k ≡ m → test m x ≡ true
  at_place n k m [] x h e p = absurd (grind arith)
  at_place n zero m (y ∷ xs) x h e p = grind (arith, nat_tests)
  at_place n (suc k) m (y ∷ xs) x h e p = at_place (n + 1) k m xs x (grind (arith, nat_tests)) e (omega (arith, p))
