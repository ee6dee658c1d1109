-- Lines and what they write. Assumes nothing.
--     line_of ws         the words ws, with a blank between two
--     is_word w          w may be a word: it is not empty, and no blank stands in it
--     IsLineOf W x line  the line is made of words, with a single blank between two, and they write x, in the sense of W
--     Reads W line r     r is what the line writes, or an error, and then the line writes nothing
use Rattle.std.specs.Prelude.{◌≡◌, ℕ, Bool, not, ◌&&◌, IsTrue, List, Result, Ok, Err}
use Rattle.std.specs.List.{join_with_byte, list_all, list_any}
use Rattle.commands.specs.Words.{is_blank, is_gap}
use Rattle.commands.specs.declared.malformed.Malformed.{Malformed}

abbrev pub line_of : List (List ℕ) → List ℕ
line_of = join_with_byte 32

abbrev pub is_word : List ℕ → Bool
is_word w = not (is_gap w) && not (list_any is_blank w)

pub record IsLineOf {X : Type 0} (Writes : X → List (List ℕ) → Type 0) (x : X) (line : List ℕ) : Type 0 where
  pub parts : List (List ℕ)
  pub each : IsTrue (list_all is_word parts)
  pub writes : Writes x parts
  pub whole : line ≡ line_of parts

abbrev pub Reads : {X : Type 0} → (X → List (List ℕ) → Type 0) → List ℕ → Result X Malformed → Type 0
Reads Writes line (Ok x) = IsLineOf Writes x line
Reads {X} Writes line (Err e) = (x : X) → ¬ IsLineOf Writes x line
