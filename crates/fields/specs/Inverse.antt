-- Reading that is the inverse of writing. Assumes nothing.
--     Inverse write read   what is written is read again, and nothing else is read
use Rattle.std.specs.Prelude.{◌≡◌, ℕ, List, Option, Some}

pub record Inverse {X : Type 0} (write : X → List ℕ) (read : List ℕ → Option X) : Type 0 where
  pub named : (x : X) → read (write x) ≡ Some x
  pub only : (bs : List ℕ) (x : X) → read bs ≡ Some x → write x ≡ bs
