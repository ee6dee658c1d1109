-- Numbers in decimal digits. Assumes nothing.
--     value_of bs     the number that digits write
--     is_numeral bs   the bytes are one to nine digits
--     number_in bs    that number, if they are, and else that they are none
use Rattle.std.specs.Prelude.{ℕ, ◌+◌, ◌*◌, Bool, if◌then◌else◌, ◌&&◌, List, length, fold, nat_le, Result, Ok, Err}
use Rattle.calendar.specs.Digits.{all_digits, digit_of}
use Rattle.commands.specs.declared.malformed.Malformed.{Malformed}
use Rattle.commands.specs.declared.malformed.Malformed.TheVariants.{Number}

abbrev pub value_of : List ℕ → ℕ
value_of = fold (λ n b. n * 10 + digit_of b) 0

abbrev pub is_numeral : List ℕ → Bool
is_numeral bs = (nat_le 1 (length bs) && nat_le (length bs) 9) && all_digits bs

abbrev pub number_in : List ℕ → Result ℕ Malformed
number_in bs = if is_numeral bs then Ok (value_of bs) else Err Number
