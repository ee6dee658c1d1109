-- Reading that is the inverse of writing. Assumes nothing.
--     Reads write bs r   r is the value that the bytes bs write, and none only if no value writes them
use Rattle.std.specs.Prelude.{◌≡◌, ℕ, List, Option, MatchOption, ◌≢◌}

abbrev pub Reads : {X : Type 0} → (X → List ℕ) → List ℕ → Option X → Type 0
Reads write bs r = MatchOption r ((x : _) → write x ≢ bs) (λ x. write x ≡ bs)
