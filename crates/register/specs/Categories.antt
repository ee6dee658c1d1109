-- The categories of visits. Assumes nothing.
--     is_dispensing c   whether c is the category of a dispensing: AE or AF
use Rattle.std.specs.Prelude.{ℕ, Bool, ◌&&◌, ◌||◌, ◌==◌, List, slice_index}

abbrev pub is_dispensing : List ℕ → Bool
is_dispensing c = slice_index c 0 == 65 && (slice_index c 1 == 69 || slice_index c 1 == 70)
