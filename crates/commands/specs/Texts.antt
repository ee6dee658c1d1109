-- Bytes as text. Assumes nothing.
--     shown b            the byte b as it is printed: itself, if it is a printable ASCII byte, and else a question mark
--     without_zeros bs   bs without the zero bytes at its end
--     before b bs        the byte b before bs, or nothing, if it is zero and bs is empty
use Rattle.std.specs.Prelude.{ℕ, ◌==◌, if◌then◌else◌, List, [], ◌∷◌}
use Rattle.grammar.specs.Bytes.{within}

abbrev pub shown : ℕ → ℕ
shown b = if within 0x20 0x7e b then b else 63

abbrev pub before : ℕ → List ℕ → List ℕ
before b [] = if b == 0 then [] else b ∷ []
before b (c ∷ cs) = b ∷ c ∷ cs

abbrev pub without_zeros : List ℕ → List ℕ
without_zeros [] = []
without_zeros (b ∷ bs) = before b (without_zeros bs)
