-- Keys by number. Assumes nothing.
--     sender_of n   the sender whose last digit is n
--     scattered n   the number n, moved to lie anywhere among those of 64 bits
use Rattle.std.specs.Prelude.{ℕ, ◌+◌, ◌*◌, ◌%◌, ◌^◌, List, [], ◌∷◌, ◌++◌, codes}

abbrev pub sender_of : ℕ → List ℕ
sender_of n = codes "110110001" ++ ((48 + n) ∷ [])

abbrev pub scattered : ℕ → ℕ
scattered n = (n * 11400714819323198485) % 2 ^ 64
