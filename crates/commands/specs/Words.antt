-- Words. Assumes nothing.
--     is_blank b    the byte b is a blank
--     words_of bs   what stands between the blanks of bs, and before the first and behind the last
--     is_gap w      the word w is empty
--     words_in bs   those words, if none is empty: a single blank stands between two, and no other
--     left w        the words that are left
use Rattle.std.specs.Prelude.{ℕ, Bool, ◌==◌, if◌then◌else◌, List, [], length, Result, Ok, Err}
use Rattle.std.specs.List.{list_any, slice_split}
use Rattle.std.specs.Option.{option_map_or}
use Rattle.commands.specs.declared.malformed.Malformed.{Malformed}
use Rattle.commands.specs.declared.malformed.Malformed.TheVariants.{Words}
use Rattle.commands.specs.declared.words.Words as declared

abbrev pub is_blank : ℕ → Bool
is_blank b = b == 32

abbrev pub words_of : List ℕ → List (List ℕ)
words_of = slice_split is_blank

abbrev pub is_gap : List ℕ → Bool
is_gap w = length w == 0

abbrev pub words_in : List ℕ → Result (List (List ℕ)) Malformed
words_in bs = if list_any is_gap (words_of bs) then Err Words else Ok (words_of bs)

abbrev pub left : declared.Words → List (List ℕ)
left w = option_map_or (λ rest. words_of rest.now) w.rest []
