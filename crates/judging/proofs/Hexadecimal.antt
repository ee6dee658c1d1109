-- What `{:02X}`, `{:04X}` and `{:08X}` write. Assumes nothing.
use Rattle.std.proofs.Common.{◌≡◌, ℕ, zero, suc, ◌+◌, ◌-◌, ◌/◌, ◌%◌, ◌^◌, ◌<◌, ◌≤◌, true, false, Option, None, Some, MatchOption, List, [], ◌∷◌, ◌++◌, length, replicate, refl, sym, ap, ◌∙◌, ⊎_elim, arith}
use Rattle.std.proofs.lemmas.Bool.Decides.{eqb_tells}
use Rattle.std.proofs.lemmas.List.{append-nil}
use Rattle.std.specs.Fmt.{digits_onto, digits, padded_integral, format_spec, char_count}
use Rattle.judging.specs.Lines.{hex_digit, hex_byte, short_text, place_text, counts_text, row_text, refusal_text}
use Rattle.faults.specs.Rules.{number_of as rule_number}
use Rattle.faults.specs.declared.report.Fault.{Fault}
use Rattle.judging.specs.declared.upload.Counts.{Counts}
use Rattle.reader.specs.Refusals.{cause_number, number_of, told_cause, told_place}
use Rattle.reader.specs.declared.faults.Cause.{Cause}
use Rattle.reader.specs.declared.faults.Refusal.{Refusal}
use Rattle.std.specs.Option.{option_map, unwrap_or}

-- the last w digits of n, followed by acc
abbrev pub last_digits : ℕ → ℕ → List ℕ → List ℕ
last_digits zero n acc = acc
last_digits (suc w) n acc = last_digits w (n / 16) (hex_digit (n % 16) ∷ acc)

shifted : (w : ℕ) (acc : List ℕ) → replicate w 48 ++ (48 ∷ acc) ≡ 48 ∷ (replicate w 48 ++ acc)
shifted zero acc = refl
shifted (suc w) acc = ap (λ x. 48 ∷ x) (shifted w acc)

of_zero : (w : ℕ) (acc : List ℕ) → replicate w 48 ++ acc ≡ last_digits w 0 acc
of_zero zero acc = refl
of_zero (suc w) acc = sym (shifted w acc) ∙ of_zero w (48 ∷ acc)

digits_left : (w n : ℕ) → n < 16 ^ suc w → (n / 16 ≡ 0 → ⊥) → 0 < w
digits_left zero n small more = omega (arith, more)
digits_left (suc w) n small more = omega arith

-- zeros before the digits of n that differ from zero, w in all
filled : (w k n p : ℕ) (acc ds : List ℕ) → w ≤ k → 0 < w → n < 16 ^ w → digits_onto k 16 true n acc ≡ ds → p ≡ w + length acc - length ds
    → replicate p 48 ++ ds ≡ last_digits w n acc
filled zero k n p acc ds le some small e q = absurd (omega arith)
filled (suc w) zero n p acc ds le some small e q = absurd (omega arith)
filled (suc w) (suc k) n p acc ds le some small e q = ⊎_elim
    (λ last. let is = sym (rw last.0 at e) in
    let count : p ≡ w = omega (arith, ap length is) in
    rw (count, is, last.1) (of_zero w (hex_digit (n % 16) ∷ acc)))
    (λ more. filled w k (n / 16) p (hex_digit (n % 16) ∷ acc) ds (omega arith) (digits_left w n small more.1) (omega arith) (rw more.0 at e) (omega arith))
    (eqb_tells (n / 16) 0)

spelled : (n : ℕ) → digits_onto 64 16 true n [] ≡ digits 16 true n
unfolding digits
spelled n = refl

padded_hex : (w n : ℕ) → 0 < w → w ≤ 64 → n < 16 ^ w → padded_integral (format_spec 32 0 4 w (2 ^ 64 - 1)) false [] (digits 16 true n) ≡ last_digits w n []
unfolding padded_integral char_count
padded_hex w n some fits small =
    rw (append-nil (digits 16 true n)) (filled w 64 n _ [] (digits 16 true n) fits some small (spelled n) (omega arith))

-- the code writes a number m, which is n
pub shown : (w n : ℕ) {m : ℕ} {o : Option (List ℕ)} → 0 < w → w ≤ 64 → n < 16 ^ w → o ≡ Some (digits 16 true m) → m ≡ n
    → option_map (padded_integral (format_spec 32 0 4 w (2 ^ 64 - 1)) false []) o ≡ Some (last_digits w n [])
shown w n some fits small e same = rw (e, same, padded_hex w n some fits small) refl

byte : (n m : ℕ) (acc : List ℕ) → m ≡ n % 0x100 → hex_byte m ++ acc ≡ last_digits 2 n acc
byte n m acc e =
    let high : m / 16 ≡ n / 16 % 16 = omega (arith, e) in
    let low : m % 16 ≡ n % 16 = omega (arith, e) in
    λ i. hex_digit (high i) ∷ hex_digit (low i) ∷ acc

short_digits : (n : ℕ) (acc : List ℕ) → short_text n ++ acc ≡ last_digits 4 (n % 0x10000) acc
short_digits n acc =
    let high = n % 0x10000 / 16 / 16 in
    byte high (n / 0x100 % 0x100) _ (omega arith) ∙ ap (last_digits 2 high) (byte (n % 0x10000) (n % 0x100) acc (omega arith))

place_digits : (n : ℕ) (acc : List ℕ) → place_text n ++ acc ≡ last_digits 8 (n % 0x100000000) acc
place_digits n acc =
    let d = n % 0x100000000 in
    let c = d / 16 / 16 in
    let b = c / 16 / 16 in
    let a = b / 16 / 16 in
    byte a (n / 0x1000000 % 0x100) _ (omega arith)
    ∙ ap (last_digits 2 a) (byte b (n / 0x10000 % 0x100) _ (omega arith)
    ∙ ap (last_digits 2 b) (byte c (n / 0x100 % 0x100) _ (omega arith) ∙ ap (last_digits 2 c) (byte d (n % 0x100) acc (omega arith))))

pub counts_digits : (c : Counts) → counts_text c ≡ last_digits 4 (c.records % 0x10000) (last_digits 4 (c.accepted % 0x10000) (last_digits 8 (c.faults % 0x100000000) (10 ∷ [])))
counts_digits c =
    short_digits c.records _
    ∙ ap (last_digits 4 (c.records % 0x10000)) (short_digits c.accepted _ ∙ ap (last_digits 4 (c.accepted % 0x10000)) (place_digits c.faults (10 ∷ [])))

pub refusal_digits : (r : Refusal) (number cause place : ℕ) → number < 256 → cause < 256 → number ≡ number_of r → cause ≡ told_cause r
    → place ≡ told_place r → refusal_text r ≡ last_digits 2 number (last_digits 2 cause (last_digits 8 (place % 0x100000000) (10 ∷ [])))
refusal_digits r number cause place n_fits c_fits n c p =
    rw (sym n, sym c, sym p)
    (byte number number _ (omega arith)
    ∙ ap (last_digits 2 number) (byte cause cause _ (omega arith) ∙ ap (last_digits 2 cause) (place_digits place (10 ∷ []))))

pub told : (o : Option Cause) (n : ℕ) → MatchOption o (n ≡ 0) (λ c. n ≡ cause_number c) → n ≡ unwrap_or (option_map cause_number o) 0
told None n h = h
told (Some c) n h = h

pub row_digits : (f : Fault) (rule : ℕ) → f.field.letter < 256 → f.field.tens < 256 → f.field.ones < 256 → rule < 256 → rule ≡ rule_number f.rule
    → row_text f ≡ last_digits 4 (f.«record» % 0x10000) (last_digits 4 (f.segment % 0x10000)
    (last_digits 2 f.field.letter (last_digits 2 f.field.tens (last_digits 2 f.field.ones (last_digits 2 rule (last_digits 8 (f.place % 0x100000000) (10 ∷ [])))))))
row_digits f rule a b c d e =
    short_digits f.«record» _
    ∙ ap (last_digits 4 (f.«record» % 0x10000)) (short_digits f.segment _
    ∙ ap (last_digits 4 (f.segment % 0x10000)) (byte f.field.letter f.field.letter _ (omega arith)
    ∙ ap (last_digits 2 f.field.letter) (byte f.field.tens f.field.tens _ (omega arith)
    ∙ ap (last_digits 2 f.field.tens) (byte f.field.ones f.field.ones _ (omega arith)
    ∙ ap (last_digits 2 f.field.ones) (rw (sym e) (byte rule rule _ (omega arith))
    ∙ ap (last_digits 2 rule) (place_digits f.place (10 ∷ [])))))))
