-- The tests of amounts and quantities tell what is written so. Assumes nothing.
use Rattle.std.proofs.Common.{◌≡◌, ℕ, ◌+◌, ◌-◌, ◌≤◌, Bool, true, false, ◌&&◌, ◌==◌, List, [], ◌∷◌, ◌++◌, length, refl, sym, ap, subst, ◌∙◌, arith, length-append}
use Rattle.std.proofs.lemmas.Bool.{false≢true}
use Rattle.std.proofs.lemmas.Bool.Decides.{nat_tests}
use Rattle.std.proofs.lemmas.List.{get_or-append-add}
use Rattle.std.proofs.lemmas.List.Folds.{list_all-append}
use Rattle.std.proofs.Math.Seq.{take-append_seam, get_or-append_seam}
use Rattle.std.specs.Prelude.{if◌then◌else◌, take, slice_index, nat_le}
use Rattle.calendar.specs.Digits.{is_digit}
use Rattle.fields.specs.Forms.{is_number, is_amount, is_quantity}
use Rattle.fields.specs.Writing.{Amount, plain, minus, Quantity, whole, tenths, Writing}

amount_behind : (n b : ℕ) (v : List ℕ) (c : Bool) → (b == 45) ≡ c → (if c then is_number (n - 1) v else is_number n (b ∷ v)) ≡ true → Amount n (b ∷ v)
amount_behind n b v true e h = subst (λ x. Amount n (x ∷ v)) (grind (arith, nat_tests)) (minus v h)
amount_behind n b v false e h = plain (b ∷ v) h

amount_from : (n : ℕ) (v : List ℕ) → is_amount n v ≡ true → Amount n v
amount_from n [] h = absurd (false≢true h)
amount_from n (b ∷ v) h = amount_behind n b v (b == 45) refl h

plain_to : (n : ℕ) (v : List ℕ) → is_number n v ≡ true → is_amount n v ≡ true
plain_to n [] h = absurd (grind (arith, nat_tests))
plain_to n (b ∷ v) h = grind (arith, nat_tests)

amount_to : (n : ℕ) (v : List ℕ) → Amount n v → is_amount n v ≡ true
amount_to n v (plain u h) = plain_to n u h
amount_to n v (minus u h) = h

-- a list of two and more has two last items
ends : (v : List ℕ) → 2 ≤ length v → (w : List ℕ) × (x : ℕ) × (y : ℕ) × (v ≡ w ++ (x ∷ y ∷ []))
ends [] h = absurd (omega (arith, h))
ends (x ∷ []) h = absurd (omega (arith, h))
ends (x ∷ y ∷ []) h = ([], x, y, refl)
ends (x ∷ y ∷ z ∷ v) h = let e = ends (y ∷ z ∷ v) (omega arith) in (x ∷ e.0, e.1, e.2, ap (λ u. x ∷ u) e.3)

quantity_of : (w : List ℕ) (x y : ℕ) → is_quantity (w ++ (x ∷ y ∷ [])) ≡ (if x == 46 then is_number 5 w && is_digit y else is_number 5 (w ++ (x ∷ y ∷ [])))
quantity_of w x y =
    let u = w ++ (x ∷ y ∷ []) in
    let long : length u ≡ length w + 2 = length-append w (x ∷ y ∷ []) in
    let two : nat_le 2 (length u) ≡ true = grind (arith, nat_tests, long) in
    let back : length u - 2 ≡ length w = omega (arith, long) in
    let last : length u - 1 ≡ length w + 1 = omega (arith, long) in
    let point : slice_index u (length w) ≡ x = get_or-append_seam w x (y ∷ []) 0 in
    let tenth : slice_index u (length w + 1) ≡ y = get_or-append-add w (x ∷ y ∷ []) 1 0 in
    let front : take (length w) u ≡ w = take-append_seam w (x ∷ y ∷ []) in
    rw (two, back, last, point, tenth, front) refl

pair_from : (w : List ℕ) (x y : ℕ) (c : Bool) → (x == 46) ≡ c → (if c then is_number 5 w && is_digit y else is_number 5 (w ++ (x ∷ y ∷ []))) ≡ true
    → Quantity (w ++ (x ∷ y ∷ []))
pair_from w x y true e h = subst (λ p. Quantity (w ++ (p ∷ y ∷ []))) (grind (arith, nat_tests)) (tenths w y (grind (arith, nat_tests)) (grind (arith, nat_tests)))
pair_from w x y false e h = whole _ h

quantity_from : (v : List ℕ) → is_quantity v ≡ true → Quantity v
quantity_from [] h = whole [] h
quantity_from (x ∷ []) h = whole (x ∷ []) h
quantity_from (x ∷ y ∷ v) h =
    let e = ends (x ∷ y ∷ v) (omega arith) in
    subst Quantity (sym e.3) (pair_from e.0 e.1 e.2 (e.1 == 46) refl (sym (quantity_of e.0 e.1 e.2) ∙ (ap is_quantity (sym e.3) ∙ h)))

-- in a number the last byte but one is no point
no_point : (w : List ℕ) (x y : ℕ) → is_number 5 (w ++ (x ∷ y ∷ [])) ≡ true → (x == 46) ≡ false
no_point w x y h = grind (arith, nat_tests, list_all-append is_digit w (x ∷ y ∷ []))

whole_to : (v : List ℕ) → is_number 5 v ≡ true → is_quantity v ≡ true
whole_to [] h = h
whole_to (x ∷ []) h = h
whole_to (x ∷ y ∷ v) h =
    let e = ends (x ∷ y ∷ v) (omega arith) in
    let n : is_number 5 (e.0 ++ (e.1 ∷ e.2 ∷ [])) ≡ true = ap (is_number 5) (sym e.3) ∙ h in
    ap is_quantity e.3 ∙ (quantity_of e.0 e.1 e.2 ∙ rw (no_point e.0 e.1 e.2 n) n)

quantity_to : (v : List ℕ) → Quantity v → is_quantity v ≡ true
quantity_to v (whole u h) = whole_to u h
quantity_to v (tenths u d h k) = quantity_of u 46 d ∙ rw (h, k) refl

pub writing : Writing
writing = record {
  amount = λ n v. (amount_from n v, amount_to n v);
  quantity = λ v. (quantity_from v, quantity_to v);
}
