-- Sets of refills. Assumes nothing.
--     is_refill n       whether n is the number of a refill, 1 to 9
--     no_refills        the empty set
--     has_refill rs n   whether the refill n is in the set rs
--     with_refill rs n  rs with the refill n; rs itself, if n is not the number of one
use Rattle.std.specs.Prelude.{ℕ, zero, suc, Bool, true, false, ◌&&◌, nat_le, replicate, slice_index_or, slice_set}
use Rattle.register.specs.declared.refills.Refills.{Refills}

abbrev pub is_refill : ℕ → Bool
is_refill n = nat_le 1 n && nat_le n 9

abbrev pub no_refills : Refills
no_refills = record { taken = replicate 9 false }

abbrev pub has_refill : Refills → ℕ → Bool
has_refill rs zero = false
has_refill rs (suc n) = slice_index_or rs.taken n false

abbrev pub with_refill : Refills → ℕ → Refills
with_refill rs zero = rs
with_refill rs (suc n) = record { taken = slice_set rs.taken n true }
