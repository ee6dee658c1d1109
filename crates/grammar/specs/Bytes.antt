-- The classes of bytes. Assumes nothing.
--     within low high b   low ≤ b ≤ high
--     white               space, tab, line feed, carriage return
--     plain               a printable ASCII byte but for < > & " '
--     lead, trail         the first and the second byte of a Big5 pair
--     capital             A to Z
--     is_sign             A to Z and 0 to 9, the characters of senders, identifiers and most codes
use Rattle.std.specs.Prelude.{ℕ, Bool, ◌&&◌, ◌||◌, ◌==◌, nat_le}
use Rattle.calendar.specs.Digits.{is_digit}

abbrev pub within : ℕ → ℕ → ℕ → Bool
within low high b = nat_le low b && nat_le b high

abbrev pub white : ℕ → Bool
white b = b == 0x20 || b == 0x09 || b == 0x0a || b == 0x0d

abbrev pub plain : ℕ → Bool
plain b = within 0x20 0x21 b || within 0x23 0x25 b || within 0x28 0x3b b || b == 0x3d || within 0x3f 0x7e b

abbrev pub lead : ℕ → Bool
lead b = within 0x81 0xfe b

abbrev pub trail : ℕ → Bool
trail b = within 0x40 0x7e b || within 0xa1 0xfe b

abbrev pub capital : ℕ → Bool
capital b = within 65 90 b

abbrev pub is_sign : ℕ → Bool
is_sign b = capital b || is_digit b
