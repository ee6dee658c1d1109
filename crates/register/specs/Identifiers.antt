-- The identifiers of records. Assumes nothing.
--     is_placeholder bs   whether the identifier bs, twenty bytes, is a placeholder: all 9s, all Fs, or sixteen zeros at the end
use Rattle.std.specs.Prelude.{ℕ, Bool, ◌||◌, ◌==◌, List, drop}
use Rattle.std.specs.List.{list_all}

abbrev pub is_placeholder : List ℕ → Bool
is_placeholder bs = list_all (λ b. b == 57) bs || (list_all (λ b. b == 70) bs || list_all (λ b. b == 48) (drop 4 bs))
