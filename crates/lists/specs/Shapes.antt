-- Lists by the shape of the codes. Assumes nothing.
--     visit_numbers   the codes of list 7
--     shaped          lists 1 to 6 have the codes of A to Z and 0 to 9, and list 7 the visit numbers, on any day
use Rattle.std.specs.Prelude.{ℕ, ◌&&◌, ◌||◌, ◌==◌, List, [], ◌∷◌, codes}
use Rattle.std.specs.List.{list_all, list_any}
use Rattle.std.specs.Str.{bytes_eq}
use Rattle.grammar.specs.Bytes.{within, is_sign}
use Rattle.lists.specs.Lists.{Meaning, may_be_listed}

abbrev pub visit_numbers : List (List ℕ)
visit_numbers =
    codes "A000" ∷ codes "A001" ∷ codes "A010" ∷ codes "A011" ∷ codes "A020" ∷ codes "A021" ∷ codes "A030" ∷ codes "A031"
    ∷ codes "B000" ∷ codes "B001" ∷ codes "C000" ∷ codes "C001" ∷ codes "D000" ∷ codes "D001" ∷ codes "D010" ∷ codes "D011"
    ∷ codes "E000" ∷ codes "E001" ∷ codes "F000" ∷ codes "Z000" ∷ codes "Z001" ∷ codes "G000" ∷ codes "IC98" ∷ codes "IC09"
    ∷ codes "F00B" ∷ codes "CV19" ∷ codes "FORE" ∷ codes "TM01" ∷ []

abbrev pub shaped : Meaning
shaped list code _ =
    (within 1 6 list && (may_be_listed list code && list_all is_sign code))
    || (list == 7 && list_any (λ n. bytes_eq n code) visit_numbers)
