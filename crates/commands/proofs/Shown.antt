-- What `{:02X}` writes of a byte, and `{}` of a flag; and a text that grows piece by piece. Assumes nothing.
use Rattle.std.proofs.Common.{◌≡◌, ℕ, ◌+◌, ◌-◌, ◌^◌, ◌<◌, Bool, true, false, Option, Some, List, [], ◌++◌, length, take, get_or, lit<, sym, ap, ◌∙◌}
use Rattle.std.proofs.lemmas.Fmt.{hex_byte as hex_digits, decimal_digit}
use Rattle.std.proofs.lemmas.List.{take_more, flat_map_more}
use Rattle.std.specs.Fmt.{decimal, digits, format_spec, padded_integral}
use Rattle.std.specs.List.{flat_map}
use Rattle.std.specs.Option.{option_map}
use mir.Val.{bool_byte}
use Rattle.commands.specs.LookUpLines.{flag_text}
use Rattle.commands.specs.VerdictsLines.{hex_byte}

pub byte_shown : (n m : ℕ) {o : Option (List ℕ)} → n < 256 → n ≡ m → o ≡ Some (digits 16 true n)
    → option_map (padded_integral (format_spec 32 0 4 2 (2 ^ 64 - 1)) false []) o ≡ Some (hex_byte m)
byte_shown n m fits is e =
    ap (option_map (padded_integral (format_spec 32 0 4 2 (2 ^ 64 - 1)) false [])) e ∙ ap (λ x. Some x) (hex_digits true n fits ∙ ap hex_byte is)

flag_digit : (b : Bool) → decimal (bool_byte b) ≡ flag_text b
flag_digit true = decimal_digit 1 (lit< tt)
flag_digit false = decimal_digit 0 (lit< tt)

pub flag_shown : (b : Bool) (n : ℕ) → n ≡ bool_byte b → decimal n ≡ flag_text b
flag_shown b n is = ap decimal is ∙ flag_digit b

pub piece_more : (f : ℕ → List ℕ) (xs : List ℕ) (i : ℕ) → i < length xs → flat_map f (take i xs) ++ f (get_or xs i 0) ≡ flat_map f (take (i + 1) xs)
piece_more f xs i within = flat_map_more f [] (take i xs) (get_or xs i 0) ∙ sym (ap (flat_map f) (take_more xs i 0 within))
