-- Bad rows, and rows of which none is bad. Assumes nothing.
use Rattle.std.proofs.Common.{◌≡◌, ◌||◌, ◌&&◌, nat_lt, get_or, ℕ, ◌+◌, ◌-◌, ◌<◌, ◌≤◌, Bool, true, false, not, List, length, subst, Ordering, Less, Equal, Greater, sym, refl, ◌∙◌, arith}
use Rattle.std.proofs.lemmas.Bool.{false≢true}
use Rattle.std.proofs.lemmas.Bool.Decides.{nat_tests}
use Rattle.std.proofs.lemmas.Option.{slice_get-get_or}
use Rattle.std.specs.Ordering.{is_lt}
use Rattle.lists.specs.Rows.{is_lawful, row_cmp, is_bad}
use Rattle.lists.specs.declared.row.Row.{Row}

module _ (rs : List Row) (i : ℕ) (d : Row) (within : i < length rs) (lawful : Bool) (told : lawful ≡ is_lawful (get_or rs i d)) where
  bad_at : is_bad rs i ≡ (not lawful || (nat_lt 0 i && not (is_lt (row_cmp (get_or rs (i - 1) d) (get_or rs i d)))))
  unfolding is_bad
  bad_at =
      let e : i - 1 < length rs = omega arith in
      rw (slice_get-get_or rs i d within, slice_get-get_or rs (i - 1) d e, told)

  pub unlawful_at : lawful ≡ false → not lawful ≡ is_bad rs i
  unlawful_at h = grind (arith, bad_at)

  pub first_at : lawful ≡ true → i ≤ 0 → nat_lt 0 i ≡ is_bad rs i
  first_at h e = grind (arith, nat_tests, bad_at)

  pub above_at : (below : Bool) → lawful ≡ true → 0 < i → below ≡ is_lt (row_cmp (get_or rs (i - 1) d) (get_or rs i d)) → not below ≡ is_bad rs i
  above_at below h e f = let b : nat_lt 0 i ≡ true = grind (arith, nat_tests) in grind (arith, bad_at)

  -- of a row that is not bad
  pub lawful_at : is_bad rs i ≡ false → lawful ≡ true
  lawful_at h = grind (arith, bad_at)

less : (o : Ordering) → not (is_lt o) ≡ false → o ≡ Less
less Less h = refl
less Equal h = absurd (false≢true (sym h))
less Greater h = absurd (false≢true (sym h))

pub rises_at : (rs : List Row) (j i : ℕ) (d : Row) → i ≡ j + 1 → i < length rs → is_bad rs i ≡ false → row_cmp (get_or rs j d) (get_or rs i d) ≡ Less
rises_at rs j i d e h good =
    let b = bad_at rs i d h (is_lawful (get_or rs i d)) refl in
    let k : i - 1 ≡ j = omega arith in
    let n : nat_lt 0 i ≡ true = grind (arith, nat_tests) in
    let f : not (is_lt (row_cmp (get_or rs (i - 1) d) (get_or rs i d))) ≡ false = bool_or_false (is_lawful (get_or rs i d)) _ _ (sym b ∙ good) n in
    subst (λ x. row_cmp (get_or rs x d) (get_or rs i d) ≡ Less) k (less _ f)
  where
    bool_or_false : (l p q : Bool) → (not l || (p && q)) ≡ false → p ≡ true → q ≡ false
    bool_or_false true true q h n = h
    bool_or_false true false q h n = absurd (false≢true n)
    bool_or_false false p q h n = absurd (false≢true (sym h))
