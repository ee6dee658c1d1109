-- Bytes as lines. Assumes nothing.
--     line_feed, carriage_return   line feed and carriage return
--     Cut bs ended begun           the bytes are the lines `ended`, each with its line feed, and then the bytes `begun` of a line that has not ended
--     rest begun                   the line that has begun, as a line of its own: none if nothing of it was read
--     ends_in line b               the last byte of the line is b
--     text line                    a line without the carriage return that may stand at its end
use Rattle.std.specs.Prelude.{◌≡◌, ℕ, ◌-◌, Bool, if◌then◌else◌, ◌&&◌, List, [], ◌∷◌, ◌++◌, length, take, ◌==◌, ◌≢◌, nat_lt, slice_index, All}
use Rattle.std.specs.List.{flat_map}

abbrev pub line_feed : ℕ
line_feed = 10

abbrev pub carriage_return : ℕ
carriage_return = 13

-- no byte of the line is a line feed
abbrev pub IsUnbroken : List ℕ → Type 0
IsUnbroken line = All (λ b. b ≢ line_feed) line

pub record Cut (bs : List ℕ) (ended : List (List ℕ)) (begun : List ℕ) : Type 0 where
  pub parts : bs ≡ flat_map (λ line. line ++ line_feed ∷ []) ended ++ begun
  pub lines : All IsUnbroken ended
  pub open_end : IsUnbroken begun

abbrev pub rest : List ℕ → List (List ℕ)
rest [] = []
rest (b ∷ bs) = (b ∷ bs) ∷ []

abbrev pub ends_in : List ℕ → ℕ → Bool
ends_in line b = nat_lt 0 (length line) && slice_index line (length line - 1) == b

abbrev pub text : List ℕ → List ℕ
text line = if ends_in line carriage_return then take (length line - 1) line else line
