-- What single values of an order may be. Assumes nothing.
--     is_order_kind bs           a kind of order: 1 2 3 4 5 J G M P Q
--     is_prescription_kind bs    a kind of prescription: A to F
--     is_course bs               a number of days, 1 to 92
use Rattle.std.specs.Prelude.{ℕ, Bool, false, ◌&&◌, ◌==◌, List, [], ◌∷◌, codes, nat_le}
use Rattle.std.specs.List.{list_any}
use Rattle.values.specs.Numbers.{number}

abbrev pub is_order_kind : List ℕ → Bool
is_order_kind (b ∷ []) = list_any (λ k. k == b) (codes "12345JGMPQ")
is_order_kind _ = false

abbrev pub is_prescription_kind : List ℕ → Bool
is_prescription_kind (b ∷ []) = nat_le 65 b && nat_le b 70
is_prescription_kind _ = false

abbrev pub is_course : List ℕ → Bool
is_course bs = nat_le 1 (number bs) && nat_le (number bs) 92
