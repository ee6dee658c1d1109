-- Numbers in ASCII digits. Assumes nothing.
--     is_digit b         the byte is one of 0 to 9
--     all_digits bs      every byte is
--     if_digits n bs o   o, if the bytes are n digits
--     digit_of b         what a byte counts for: 0, if it is no digit
--     two_at, three_at   the number that two or three bytes write, from a place on
--     digit_in b         what a digit counts for, if the byte is one
--     two_in, three_in   the number that two or three bytes write, if they are digits
--     figure n           the last digit of n, as a byte
--     two n, three n     the last two or three digits of n, as bytes. Kept shut: whoever builds on them uses their laws
use Rattle.std.specs.Prelude.{ℕ, ◌+◌, ◌-◌, ◌*◌, ◌/◌, ◌%◌, Bool, if◌then◌else◌, ◌&&◌, List, [], ◌∷◌, length, Some, None, Option, ◌==◌, nat_le, slice_index}
use Rattle.std.specs.List.{list_all}

abbrev pub is_digit : ℕ → Bool
is_digit b = nat_le 48 b && nat_le b 57

abbrev pub all_digits : List ℕ → Bool
all_digits = list_all is_digit

abbrev pub if_digits : {X : Type 0} → ℕ → List ℕ → Option X → Option X
if_digits n bs o = if length bs == n && all_digits bs then o else None

abbrev pub digit_of : ℕ → ℕ
digit_of b = if is_digit b then b - 48 else 0

abbrev pub two_at : List ℕ → ℕ → ℕ
two_at bs i = digit_of (slice_index bs i) * 10 + digit_of (slice_index bs (i + 1))

abbrev pub three_at : List ℕ → ℕ → ℕ
three_at bs i = digit_of (slice_index bs i) * 100 + two_at bs (i + 1)

abbrev pub digit_in : ℕ → Option ℕ
digit_in b = if is_digit b then Some (digit_of b) else None

abbrev pub two_in : List ℕ → Option ℕ
two_in bs = if_digits 2 bs (Some (two_at bs 0))

abbrev pub three_in : List ℕ → Option ℕ
three_in bs = if_digits 3 bs (Some (three_at bs 0))

abbrev pub figure : ℕ → ℕ
figure n = 48 + n % 10

unfoldable pub two : ℕ → List ℕ
two n = figure (n / 10) ∷ figure n ∷ []

unfoldable pub three : ℕ → List ℕ
three n = figure (n / 100) ∷ figure (n / 10) ∷ figure n ∷ []
