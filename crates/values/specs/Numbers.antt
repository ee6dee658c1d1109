-- The numbers that short values write. Assumes nothing.
--     decimal bs      the number that digits write
--     short_number bs that number, if the bytes are one to four digits
--     order_number bs    the number of an order: below 1000
--     number bs       the same, and 0 if they are not
--     rank bs         1 to 5 for a letter A to E, large or small; 0 for any other value
use Rattle.std.specs.Prelude.{ℕ, ◌+◌, ◌-◌, ◌*◌, if◌then◌else◌, ◌&&◌, List, [], ◌∷◌, length, fold, Option, Some, None, nat_le, nat_lt}
use Rattle.std.specs.Option.{unwrap_or, option_and_then}
use Rattle.calendar.specs.Digits.{all_digits, digit_of}

abbrev pub decimal : List ℕ → ℕ
decimal = fold (λ n b. n * 10 + digit_of b) 0

abbrev pub short_number : List ℕ → Option ℕ
short_number bs = if (nat_le 1 (length bs) && nat_le (length bs) 4) && all_digits bs then Some (decimal bs) else None

abbrev pub order_number : List ℕ → Option ℕ
order_number bs = option_and_then (λ n. if nat_lt n 1000 then Some n else None) (short_number bs)

abbrev pub number : List ℕ → ℕ
number bs = unwrap_or (short_number bs) 0

abbrev pub letter_rank : ℕ → ℕ
letter_rank b = if nat_le 65 b && nat_le b 69 then b - 64 else (if nat_le 97 b && nat_le b 101 then b - 96 else 0)

abbrev pub rank : List ℕ → ℕ
rank (b ∷ []) = letter_rank b
rank _ = 0
