-- The order of codes. Assumes nothing.
--     listed_cmp a b       how a and b compare, each a list and a code: by list, then byte by byte
--     DictionaryOrder cmp  cmp orders by list, and the codes of a list as words in a dictionary
use Rattle.std.specs.Prelude.{◌≡◌, ℕ, ◌<◌, List, ◌∷◌, ◌++◌}
use Rattle.std.specs.declared.cmp.Ordering.{Ordering}
use Rattle.std.specs.declared.cmp.Ordering.TheVariants.{Less, Equal}
use Rattle.std.specs.Cmp.{IsTotalOrder}
use Rattle.std.specs.Cmp.Lexicographic.{slice_cmp}
use Rattle.std.specs.Ordering.{nat_cmp, on, then_cmp}

abbrev pub listed_cmp : ℕ × List ℕ → ℕ × List ℕ → Ordering
listed_cmp = then_cmp (on (λ a. a.0) nat_cmp) (on (λ a. a.1) (slice_cmp nat_cmp))

-- the order is total, and only the same are equal; a beginning stands before what goes on from it, and else the first byte that
-- differs decides
pub record DictionaryOrder (cmp : ℕ × List ℕ → ℕ × List ℕ → Ordering) : Type 0 where
  pub total : IsTotalOrder cmp
  pub same : (a b : ℕ × List ℕ) → cmp a b ≡ Equal → a ≡ b
  pub lists : (m n : ℕ) (c d : List ℕ) → m < n → cmp (m, c) (n, d) ≡ Less
  pub beginnings : (n x : ℕ) (c d : List ℕ) → cmp (n, c) (n, c ++ x ∷ d) ≡ Less
  pub differing : (n x y : ℕ) (front c d : List ℕ) → x < y → cmp (n, front ++ x ∷ c) (n, front ++ y ∷ d) ≡ Less
