-- Rows of code lists, as they are written. Assumes nothing.
--     ToldRow        a row without its loans
--     told_row r     the row r so
--     told_rows r    what comes of reading one so
--     WritesRow r ws the words ws write the row r: list number, code, first and last day
--     byte_in w      the number below 256 that the word w writes
--     row_of ws      the row of the words ws
--     row_in line    the row that the line writes, or why it writes none
use Rattle.std.specs.Prelude.{ℕ, ◌<◌, if◌then◌else◌, IsTrue, List, [], ◌∷◌, nat_lt, Result, Ok, Err}
use Rattle.std.specs.Result.{result_map_both}
use Rattle.lists.specs.declared.row.Row.{Row}
use Rattle.commands.specs.Malformed.{if_ok}
use Rattle.commands.specs.Numbers.{is_numeral, number_in, value_of}
use Rattle.commands.specs.Words.{words_in}
use Rattle.commands.specs.declared.malformed.Malformed.{Malformed}
use Rattle.commands.specs.declared.malformed.Malformed.TheVariants.{Words, Number}

pub record ToldRow : Type 0 where
  pub list : ℕ
  pub code : List ℕ
  pub first : List ℕ
  pub last : List ℕ

abbrev pub told_row : Row → ToldRow
told_row r = record { list = r.list; code = r.code.now; first = r.first.now; last = r.last.now }

abbrev pub told_rows : Result Row Malformed → Result ToldRow Malformed
told_rows = result_map_both told_row (λ e. e)

pub data WritesRow : ToldRow → List (List ℕ) → Type 0 where
  fields : {n c f l : List ℕ} → IsTrue (is_numeral n) → value_of n < 256
      → WritesRow (record { list = value_of n; code = c; first = f; last = l }) (n ∷ c ∷ f ∷ l ∷ [])

abbrev pub byte_in : List ℕ → Result ℕ Malformed
byte_in w = if_ok (number_in w) (λ n. if nat_lt n 256 then Ok n else Err Number)

abbrev pub row_of : List (List ℕ) → Result ToldRow Malformed
row_of (list ∷ code ∷ first ∷ last ∷ []) = if_ok (byte_in list) (λ n. Ok (record { list = n; code = code; first = first; last = last }))
row_of _ = Err Words

abbrev pub row_in : List ℕ → Result ToldRow Malformed
row_in line = if_ok (words_in line) row_of
