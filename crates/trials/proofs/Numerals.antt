-- Numbers written from their last digit on.
use Rattle.std.proofs.Common.{◌≡◌, ℕ, ◌+◌, ◌-◌, ◌*◌, ◌/◌, ◌%◌, ◌^◌, ◌<◌, List, [], ◌∷◌, length, drop, slice_set, add-one, arith, ap, ◌∙◌, sym, refl}
use Rattle.std.proofs.Math.Nat.{pow-suc, zero-add}
use Rattle.std.proofs.lemmas.Grind.{drop-set_at}
use Rattle.std.proofs.lemmas.List.{length-drop}
use Rattle.std.proofs.lemmas.Str.{digit_value_digit}
use Rattle.std.specs.Char.{digit_value}
use Rattle.std.specs.Str.Parse.{digits_value, digits_value_after}

apart : (n d w v : ℕ) → (n * 10 + d) * w + v ≡ n * (w * 10) + (d * w + v)
apart n d w v = grind arith

value_after : (n : ℕ) (ds : List ℕ) → digits_value_after 10 n ds ≡ n * 10 ^ length ds + digits_value 10 ds
value_after n [] = omega arith
value_after n (d ∷ ds) =
    value_after (n * 10 + digit_value d) ds
    ∙ apart n (digit_value d) (10 ^ length ds) (digits_value 10 ds)
    ∙ rw (pow-suc 10 (length ds), value_after (0 + digit_value d) ds, zero-add (digit_value d)) refl

-- one digit more, written before the last i
value_before : (ds : List ℕ) (i d : ℕ) → length ds ≡ 20 → i < 20 → d < 10
    → digits_value 10 (drop (20 - (i + 1)) (slice_set ds (19 - i) (48 + d))) ≡ d * 10 ^ i + digits_value 10 (drop (20 - i) ds)
value_before ds i d full below small =
    let cut = drop-set_at ds (19 - i) (20 - (i + 1)) (48 + d) (omega arith) (omega arith) in
    let digit : digit_value (48 + d) ≡ d = omega (arith, digit_value_digit (48 + d) (omega arith, omega arith)) in
    let place : 19 - i + 1 ≡ 20 - i = omega arith in
    let long : length (drop (20 - i) ds) ≡ i = omega (arith, length-drop (20 - i) ds) in
    rw (cut, place) (value_after (0 + digit_value (48 + d)) (drop (20 - i) ds) ∙ rw (digit, long, zero-add d) refl)

-- the last digit of the rest stands before the digits that are written
pub one_more : (ds : List ℕ) (i rest n : ℕ) → length ds ≡ 20 → i < 20 → rest * 10 ^ i + digits_value 10 (drop (20 - i) ds) ≡ n
    → rest / 10 * 10 ^ (i + 1) + digits_value 10 (drop (20 - (i + 1)) (slice_set ds (19 - i) (48 + rest % 10))) ≡ n
one_more ds i rest n full below so =
    let parts : rest ≡ rest / 10 * 10 + rest % 10 = omega arith in
    rw (value_before ds i (rest % 10) full below (omega arith), add-one i, pow-suc 10 i) (sym (apart (rest / 10) (rest % 10) (10 ^ i) (digits_value 10 (drop (20 - i) ds))))
    ∙ ap (λ r. r * 10 ^ i + digits_value 10 (drop (20 - i) ds)) (sym parts)
    ∙ so
