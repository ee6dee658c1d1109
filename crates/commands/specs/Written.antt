-- How commands are written. Assumes nothing.
--     Writes c ws   the words ws write the command c
use Rattle.std.specs.Prelude.{ℕ, IsTrue, List, [], ◌∷◌, codes}
use Rattle.commands.specs.Commands.{Told, register, shape, rows, receive, look_up}
use Rattle.commands.specs.Numbers.{is_numeral, value_of}
use Rattle.commands.specs.declared.command.Kind.TheVariants.{Ordered, Scattered}

pub data Writes : Told → List (List ℕ) → Type 0 where
  ordered : {w : List ℕ} → IsTrue (is_numeral w) → Writes (register Ordered (value_of w)) (codes "register" ∷ codes "ordered" ∷ w ∷ [])
  scattered : {w : List ℕ} → IsTrue (is_numeral w) → Writes (register Scattered (value_of w)) (codes "register" ∷ codes "scattered" ∷ w ∷ [])
  by_shape : Writes shape (codes "lists" ∷ codes "shape" ∷ [])
  by_rows : {w : List ℕ} → IsTrue (is_numeral w) → Writes (rows (value_of w)) (codes "lists" ∷ codes "rows" ∷ w ∷ [])
  upload : {s d v r n : List ℕ} → IsTrue (is_numeral v) → IsTrue (is_numeral r) → IsTrue (is_numeral n)
      → Writes (receive s d (value_of v) (value_of r) (value_of n)) (codes "receive" ∷ s ∷ d ∷ v ∷ r ∷ n ∷ [])
  key : {s i : List ℕ} → Writes (look_up s i) (codes "lookup" ∷ s ∷ i ∷ [])
