-- The codes of an order, field D06, for which D08 and D14 are excused. Assumes nothing.
--     short_codes         those of three bytes
--     long_codes          those of six bytes
--     is_excused_code c   c is one of them
use Rattle.std.specs.Prelude.{ℕ, Bool, ◌||◌, List, [], ◌∷◌, codes}
use Rattle.std.specs.List.{list_any}
use Rattle.std.specs.Str.{bytes_eq}

abbrev pub short_codes : List (List ℕ)
short_codes =
    codes "M01" ∷ codes "M02" ∷ codes "M03" ∷ codes "M04" ∷ codes "M05" ∷ codes "M06" ∷ codes "M11" ∷ codes "M12" ∷ codes "M13"
    ∷ codes "A21" ∷ codes "MA1" ∷ codes "MA2" ∷ codes "MA3" ∷ codes "MA4" ∷ []

abbrev pub long_codes : List (List ℕ)
long_codes = codes "P31102" ∷ codes "P32102" ∷ codes "P33021" ∷ codes "P23021" ∷ codes "P34021" ∷ codes "P38021" ∷ []

abbrev pub is_excused_code : List ℕ → Bool
is_excused_code code = list_any (λ e. bytes_eq e code) short_codes || list_any (λ e. bytes_eq e code) long_codes
