-- When two keys are the same. Assumes nothing.
use Rattle.std.proofs.Common.{◌≡◌, ℕ, ◌<◌, Bool, true, false, ◌&&◌, List, [], ◌∷◌, ◌++◌, Ordering, Less, Equal, sym, refl, ap, ◌∙◌, subst, rules, arith}
use Rattle.std.proofs.lemmas.Cmp.{on_total, then_total, on_equiv, and_equiv, tied_itself, nat_cmp_total, nat_list_cmp_total, nat_list_eq_equiv, same_from_slice_cmp}
use Rattle.std.proofs.lemmas.Bool.Decides.{nat_tests}
use Rattle.std.proofs.lemmas.Slice.Eq.{bytes_eq-Decides}
use Rattle.std.proofs.lemmas.Map.Keys.{IsDistinct-from_sorted}
use Rattle.std.specs.List.{IsDistinct}
use Rattle.std.specs.List.Sorted.{IsStrictlySortedBy}
use Rattle.std.specs.Cmp.{IsTotalOrder, IsEquivalence}
use Rattle.std.specs.Cmp.Lexicographic.{slice_cmp}
use Rattle.std.specs.Ordering.{nat_cmp, is_eq, eq_by_cmp}
use Rattle.std.specs.Str.{bytes_eq}
use Rattle.register.specs.Keys.{same_key, key_cmp, OrderOfKeys}
use Rattle.register.specs.declared.key.Key.{Key}

pub key_total : IsTotalOrder key_cmp
key_total = then_total (on_total (λ (k : Key). k.sender) nat_list_cmp_total) (on_total (λ (k : Key). k.identifier) nat_list_cmp_total)

pub same_equiv : IsEquivalence same_key
same_equiv = and_equiv (on_equiv (λ (k : Key). k.sender) nat_list_eq_equiv) (on_equiv (λ (k : Key). k.identifier) nat_list_eq_equiv)

pub same_itself : (k : Key) → same_key k k ≡ true
same_itself k = same_equiv.refl k

pub is_same : (a b : Key) → same_key a b ≡ true → a ≡ b
is_same a b h = search (rules, bytes_eq-Decides)

bytes_compared : (xs ys : List ℕ) → is_eq (slice_cmp nat_cmp xs ys) ≡ bytes_eq xs ys
bytes_compared xs ys = same_from_slice_cmp nat_cmp is_eq bytes_eq refl (λ _ _. refl) (λ _ _. refl) (λ x y us vs o h. grind (arith, nat_tests)) xs ys _ refl

pub same_by_cmp : (a b : Key) → eq_by_cmp key_cmp a b ≡ same_key a b
same_by_cmp a b = search (rules, bytes_compared)

differing : (x y : ℕ) (front s t : List ℕ) → x < y → slice_cmp nat_cmp (front ++ x ∷ s) (front ++ y ∷ t) ≡ Less
differing x y [] s t h = let below : nat_cmp x y ≡ Less = grind (arith, nat_tests) in rw below refl
differing x y (z ∷ front) s t h = rw (tied_itself nat_cmp_total z) (differing x y front s t h)

pub order_of_keys : OrderOfKeys key_cmp
order_of_keys = record {
  total = key_total;
  same = λ a b h. is_same a b (sym (same_by_cmp a b) ∙ ap is_eq h);
  senders = λ x y front s t a b h p q. rw (p, q, differing x y front s t h) refl;
  identifiers = λ x y front s t a b h same p q. rw (same, tied_itself nat_list_cmp_total b.sender, p, q) (differing x y front s t h);
}

pub by_cmp : eq_by_cmp key_cmp ≡ same_key
by_cmp = λ i a b. same_by_cmp a b i

-- keys that rise are distinct
pub distinct : (ks : List Key) → IsStrictlySortedBy key_cmp ks → IsDistinct same_key ks
distinct ks s = subst (λ f. IsDistinct f ks) by_cmp (IsDistinct-from_sorted key_cmp ks s)
