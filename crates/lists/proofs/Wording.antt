-- The order of codes is that of words in a dictionary. Assumes nothing.
use Rattle.std.proofs.Common.{◌≡◌, ℕ, ◌<◌, List, [], ◌∷◌, ◌++◌, Ordering, Less, Equal, Greater, refl, sym, ap, ◌∙◌, arith}
use Rattle.std.proofs.lemmas.Bool.Decides.{nat_tests}
use Rattle.std.proofs.lemmas.Cmp.{then_total, on_total, nat_cmp_total, nat_list_cmp_total, tied_itself, same_from_slice_cmp}
use Rattle.std.proofs.lemmas.Slice.Eq.{bytes_eq-Decides}
use Rattle.std.specs.Cmp.{IsTotalOrder}
use Rattle.std.specs.Cmp.Lexicographic.{slice_cmp}
use Rattle.std.specs.Ordering.{nat_cmp, is_eq, ordering_then}
use Rattle.std.specs.Str.{bytes_eq}
use Rattle.lists.specs.Order.{listed_cmp, DictionaryOrder}

pub listed_total : IsTotalOrder listed_cmp
listed_total = then_total (on_total (λ (a : ℕ × List ℕ). a.0) nat_cmp_total) (on_total (λ (a : ℕ × List ℕ). a.1) nat_list_cmp_total)

pub bytes_compared : (xs ys : List ℕ) → is_eq (slice_cmp nat_cmp xs ys) ≡ bytes_eq xs ys
bytes_compared xs ys = same_from_slice_cmp nat_cmp is_eq bytes_eq refl (λ _ _. refl) (λ _ _. refl) (λ x y us vs o h. grind (arith, nat_tests)) xs ys _ refl

same_then : (m n : ℕ) (xs ys : List ℕ) (o p : Ordering) → o ≡ nat_cmp m n → p ≡ slice_cmp nat_cmp xs ys → ordering_then o p ≡ Equal → (m ≡ n) × (xs ≡ ys)
same_then m n xs ys Equal Equal e f h = (grind (arith, nat_tests), (bytes_eq-Decides xs ys).0 (sym (bytes_compared xs ys) ∙ ap is_eq (sym f)))
same_then m n xs ys Equal Less e f h = absurd cc
same_then m n xs ys Equal Greater e f h = absurd cc
same_then m n xs ys Less p e f h = absurd cc
same_then m n xs ys Greater p e f h = absurd cc

below : (x y : ℕ) → x < y → nat_cmp x y ≡ Less
below x y h = grind (arith, nat_tests)

after : (front xs ys : List ℕ) → slice_cmp nat_cmp xs ys ≡ Less → slice_cmp nat_cmp (front ++ xs) (front ++ ys) ≡ Less
after [] xs ys h = h
after (x ∷ front) xs ys h = rw (tied_itself nat_cmp_total x) (after front xs ys h)

goes_on : (x : ℕ) (c d : List ℕ) → slice_cmp nat_cmp c (c ++ x ∷ d) ≡ Less
goes_on x [] d = refl
goes_on x (y ∷ c) d = rw (tied_itself nat_cmp_total y) (goes_on x c d)

in_list : (n : ℕ) (c d : List ℕ) → slice_cmp nat_cmp c d ≡ Less → listed_cmp (n, c) (n, d) ≡ Less
in_list n c d h = rw (tied_itself nat_cmp_total n) h

pub dictionary_order : DictionaryOrder listed_cmp
dictionary_order = record {
  total = listed_total;
  same = λ a b h. let s = same_then a.0 b.0 a.1 b.1 _ _ refl refl h in λ x. (s.0 x, s.1 x);
  lists = λ m n c d h. rw (below m n h) refl;
  beginnings = λ n x c d. in_list n c (c ++ x ∷ d) (goes_on x c d);
  differing = λ n x y front c d h. in_list n (front ++ x ∷ c) (front ++ y ∷ d) (after front (x ∷ c) (y ∷ d) (rw (below x y h) refl));
}
