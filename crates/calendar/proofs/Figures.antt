-- Digits that are read and written again. Assumes nothing.
use Rattle.std.proofs.Common.{◌≡◌, ℕ, ◌+◌, ◌*◌, ◌/◌, ◌%◌, ◌^◌, ◌-◌, ◌<◌, ◌≤◌, true, List, [], ◌∷◌, ◌++◌, length, get_or, drop, decimal, ⊎_elim, ap, ◌∙◌, arith}
use Rattle.std.proofs.lemmas.List.{drop_more}
use Rattle.std.proofs.lemmas.Fmt.{decimal_digit, decimal_step}
use Rattle.std.specs.Fmt.{char_count, padded_integral, styled_decimal, format_spec}
use Rattle.std.proofs.lemmas.List.Folds.{list_all_at}
use Rattle.std.proofs.lemmas.Bool.{and_from, cases_lt}
use Rattle.std.proofs.lemmas.Bool.Decides.{nat_tests}
use Rattle.calendar.specs.Digits.{is_digit, all_digits, digit_of, two_at, three_at, figure, two, three}

-- ---- written, and then read

figure_digit : (n : ℕ) → is_digit (figure n) ≡ true
figure_digit n = grind (arith, nat_tests)

figure_back : (n : ℕ) → digit_of (figure n) ≡ n % 10
figure_back n = grind (arith, nat_tests)

pub two_digits : (n : ℕ) (rest : List ℕ) → all_digits rest ≡ true → all_digits (two n ++ rest) ≡ true
unfolding two
two_digits n rest h = and_from _ _ (figure_digit (n / 10)) (and_from _ _ (figure_digit n) h)

pub three_digits : (n : ℕ) (rest : List ℕ) → all_digits rest ≡ true → all_digits (three n ++ rest) ≡ true
unfolding three
three_digits n rest h = and_from _ _ (figure_digit (n / 100)) (and_from _ _ (figure_digit (n / 10)) (and_from _ _ (figure_digit n) h))

pub two_back : (n : ℕ) → n < 100 → digit_of (figure (n / 10)) * 10 + digit_of (figure n) ≡ n
two_back n h = omega (arith, figure_back (n / 10), figure_back n)

pub three_back : (n : ℕ) → n < 1000 → digit_of (figure (n / 100)) * 100 + (digit_of (figure (n / 10)) * 10 + digit_of (figure n)) ≡ n
three_back n h = omega (arith, figure_back (n / 100), figure_back (n / 10), figure_back n)

-- ---- written as text, with zeros in front

decimal_two : (n : ℕ) → 10 ≤ n → n < 100 → decimal n ≡ (48 + n / 10) ∷ (48 + n % 10) ∷ []
decimal_two n low high = decimal_step n low (omega arith) ∙ ap (λ ds. ds ++ ((48 + n % 10) ∷ [])) (decimal_digit (n / 10) (omega arith))

decimal_three : (n : ℕ) → 100 ≤ n → n < 1000 → decimal n ≡ (48 + n / 10 / 10) ∷ (48 + n / 10 % 10) ∷ (48 + n % 10) ∷ []
decimal_three n low high = decimal_step n (omega arith) (omega arith) ∙ ap (λ ds. ds ++ ((48 + n % 10) ∷ [])) (decimal_two (n / 10) (omega arith) (omega arith))

pub two_shown : (n : ℕ) → n < 100 → styled_decimal (format_spec 32 0 4 2 (2 ^ 64 - 1)) n ≡ two n
unfolding two padded_integral char_count
two_shown n h = ⊎_elim
    (λ one. let tens : n / 10 ≡ 0 = omega arith in let ones : n % 10 ≡ n = omega arith in rw (decimal_digit n one, tens, ones))
    (λ more. let tens : n / 10 % 10 ≡ n / 10 = omega arith in rw (decimal_two n more h, tens))
    (cases_lt n 10)

pub three_shown : (n : ℕ) → n < 1000 → styled_decimal (format_spec 32 0 4 3 (2 ^ 64 - 1)) n ≡ three n
unfolding three padded_integral char_count
three_shown n h = ⊎_elim
    (λ few. let hundreds : n / 100 ≡ 0 = omega arith in ⊎_elim
    (λ one. let tens : n / 10 ≡ 0 = omega arith in let ones : n % 10 ≡ n = omega arith in rw (decimal_digit n one, hundreds, tens, ones))
    (λ more. let tens : n / 10 % 10 ≡ n / 10 = omega arith in rw (decimal_two n more few, hundreds, tens))
    (cases_lt n 10))
    (λ many. let hundreds : n / 10 / 10 ≡ n / 100 % 10 = omega arith in rw (decimal_three n many h, hundreds))
    (cases_lt n 100)

-- ---- read, and then written

digit_back : (b : ℕ) → is_digit b ≡ true → 48 + digit_of b ≡ b
digit_back b h = grind (arith, nat_tests)

digit_small : (b : ℕ) → digit_of b ≤ 9
digit_small b = grind (arith, nat_tests)

module _ (bs : List ℕ) (h : all_digits bs ≡ true) where
  digit_at : (i : ℕ) → i < length bs → is_digit (get_or bs i 0) ≡ true
  digit_at i l = grind (arith, list_all_at)

  pub two_first : (i : ℕ) → i + 1 < length bs → drop i bs ≡ two (two_at bs i) ++ drop (i + 2) bs
  unfolding two
  two_first i l =
      let a = digit_back (get_or bs i 0) (digit_at i (omega arith)) in
      let b = digit_back (get_or bs (i + 1) 0) (digit_at (i + 1) l) in
      let tens : get_or bs i 0 ≡ figure (two_at bs i / 10) = omega (arith, digit_small (get_or bs i 0), digit_small (get_or bs (i + 1) 0)) in
      let ones : get_or bs (i + 1) 0 ≡ figure (two_at bs i) = omega (arith, digit_small (get_or bs i 0), digit_small (get_or bs (i + 1) 0)) in
      let on : i + 1 + 1 ≡ i + 2 = omega arith in
      drop_more bs i 0 (omega arith) ∙ ap (λ r. get_or bs i 0 ∷ r) (drop_more bs (i + 1) 0 l) ∙ (λ k. tens k ∷ ones k ∷ drop (on k) bs)

  pub three_first : (i : ℕ) → i + 2 < length bs → drop i bs ≡ three (three_at bs i) ++ drop (i + 3) bs
  unfolding two three
  three_first i l =
      let a = digit_back (get_or bs i 0) (digit_at i (omega arith)) in
      let s = digit_small (get_or bs i 0) in
      let t = digit_small (get_or bs (i + 1) 0) in
      let u = digit_small (get_or bs (i + 1 + 1) 0) in
      let hundreds : get_or bs i 0 ≡ figure (three_at bs i / 100) = omega arith in
      let tens : figure (two_at bs (i + 1) / 10) ≡ figure (three_at bs i / 10) = omega arith in
      let ones : figure (two_at bs (i + 1)) ≡ figure (three_at bs i) = omega arith in
      let on : i + 1 + 2 ≡ i + 3 = omega arith in
      drop_more bs i 0 (omega arith) ∙ ap (λ r. get_or bs i 0 ∷ r) (two_first (i + 1) (omega arith)) ∙ (λ k. hundreds k ∷ tens k ∷ ones k ∷ drop (on k) bs)
