-- What a put and a removal mean, from what they do to the entries. Assumes nothing.
use Rattle.std.proofs.Common.{◌≡◌, ℕ, ◌+◌, ◌≤◌, Bool, true, false, cond, ◌||◌, ltb, List, [], ◌∷◌, length, Some, None, is_some, Ordering, Less, Equal, Greater, refl, sym, ap, ◌∙◌, subst, arith}
use Rattle.std.proofs.lemmas.Bool.{true≢false, false≢true, cond-true, cond-false, ltb-true}
use Rattle.std.proofs.lemmas.Cmp.{alike_right, eq_by_cmp_equiv}
use Rattle.std.proofs.lemmas.Map.{lookup-remove_entry}
use Rattle.std.proofs.lemmas.Map.Keys.{IsDistinct-from_sorted}
use Rattle.std.specs.BTreeMap.{insert_entry, is_at}
use Rattle.std.specs.Cmp.{IsTotalOrder}
use Rattle.std.specs.List.{AllByRecursion}
use Rattle.std.specs.List.Sorted.{IsStrictlySortedBy}
use Rattle.std.specs.Map.{keys_of, lookup, remove_entry}
use Rattle.std.specs.Prelude.{OnOk}
use Rattle.std.specs.Ordering.{is_eq, eq_by_cmp, ordering_reverse}
use Rattle.ordered.specs.Tables.{Table, IsKept, has_room, put_answer, put_in, without, one_if, Changes}
use Rattle.ordered.proofs.Changes.{step, removed, looked, none_above}

pub sorted_empty : {K : Type 0} (R : K → K → Ordering) → IsStrictlySortedBy R []
unfolding IsStrictlySortedBy
sorted_empty R = tt

-- an answer of a comparison, with the equation that says so
by_answer : {P : Type 0} (r : Ordering) → (r ≡ Less → P) → (r ≡ Equal → P) → (r ≡ Greater → P) → P
by_answer Less a b c = a refl
by_answer Equal a b c = b refl
by_answer Greater a b c = c refl

all_map : {K : Type 0} {P Q : K → Type 0} → ((x : K) → P x → Q x) → (ks : List K) → AllByRecursion P ks → AllByRecursion Q ks
all_map f [] a = tt
all_map f (k ∷ ks) a = (f k a.0, all_map f ks a.1)

module _ {K V : Type 0} (R : K → K → Ordering) (k : K) where
  all_insert : (v : V) (P : K → Type 0) (es : List (K × V)) → P k → AllByRecursion P (keys_of es) → AllByRecursion P (keys_of (insert_entry R es k v))
  all_insert v P [] p a = (p, tt)
  all_insert v P (e ∷ es) p a = by_answer (R k e.0)
      (λ h. rw (step R k v e es Less h) (p, a))
      (λ h. rw (step R k v e es Equal h) a)
      (λ h. rw (step R k v e es Greater h) (a.0, all_insert v P es p a.1))

  all_remove : (P : K → Type 0) (es : List (K × V)) → AllByRecursion P (keys_of es) → AllByRecursion P (keys_of (remove_entry (is_at (R k)) es))
  all_remove P [] a = tt
  all_remove P (e ∷ es) a = by_answer (R k e.0)
      (λ h. rw (removed R k e es Less h) (a.0, all_remove P es a.1))
      (λ h. rw (removed R k e es Equal h) a.1)
      (λ h. rw (removed R k e es Greater h) (a.0, all_remove P es a.1))

module _ {K V : Type 0} {R : K → K → Ordering} (o : IsTotalOrder R) (k : K) where
  pub sorted_insert : (v : V) (es : List (K × V)) → IsStrictlySortedBy R (keys_of es) → IsStrictlySortedBy R (keys_of (insert_entry R es k v))
  unfolding IsStrictlySortedBy
  sorted_insert v [] s = (tt, tt)
  sorted_insert v (e ∷ es) s = by_answer (R k e.0)
      (λ h. rw (step R k v e es Less h) ((h, all_map (λ y b. o.trans k e.0 y h b) (keys_of es) s.0), s))
      (λ h. rw (step R k v e es Equal h) s)
      (λ h. rw (step R k v e es Greater h) (all_insert R k v (λ y. R e.0 y ≡ Less) es (o.antisymm e.0 k ∙ ap ordering_reverse h) s.0, sorted_insert v es s.1))

  pub sorted_remove : (es : List (K × V)) → IsStrictlySortedBy R (keys_of es) → IsStrictlySortedBy R (keys_of (remove_entry (is_at (R k)) es))
  unfolding IsStrictlySortedBy
  sorted_remove [] s = tt
  sorted_remove (e ∷ es) s = by_answer (R k e.0)
      (λ h. rw (removed R k e es Less h) (all_remove R k (λ y. R e.0 y ≡ Less) es s.0, sorted_remove es s.1))
      (λ h. rw (removed R k e es Equal h) s.1)
      (λ h. rw (removed R k e es Greater h) (all_remove R k (λ y. R e.0 y ≡ Less) es s.0, sorted_remove es s.1))

  length_insert : (v : V) (es : List (K × V)) → IsStrictlySortedBy R (keys_of es) → length (insert_entry R es k v) + one_if (is_some (lookup (is_at (R k)) es)) ≡ length es + 1
  unfolding IsStrictlySortedBy
  length_insert v [] s = refl
  length_insert v (e ∷ es) s = by_answer (R k e.0)
      (λ h. rw (step R k v e es Less h, looked R k e es Less h, none_above o k e.0 es h s.0) (omega arith))
      (λ h. rw (step R k v e es Equal h, looked R k e es Equal h) refl)
      (λ h. let rest = length_insert v es s.1 in rw (step R k v e es Greater h, looked R k e es Greater h) (omega arith))

  length_remove : (es : List (K × V)) → length (remove_entry (is_at (R k)) es) + one_if (is_some (lookup (is_at (R k)) es)) ≡ length es
  length_remove [] = refl
  length_remove (e ∷ es) = by_answer (R k e.0)
      (λ h. let rest = length_remove es in rw (removed R k e es Less h, looked R k e es Less h) (omega arith))
      (λ h. rw (removed R k e es Equal h, looked R k e es Equal h) (omega arith))
      (λ h. let rest = length_remove es in rw (removed R k e es Greater h, looked R k e es Greater h) (omega arith))

once : {A : Type 0} (b c : Bool) (x y z : A) → b ≡ c → cond b x z ≡ cond c x (cond b y z)
once true true x y z h = refl
once false false x y z h = refl
once true false x y z h = absurd (true≢false h)
once false true x y z h = absurd (false≢true h)

swapped : {A : Type 0} (b c : Bool) (x y z : A) → (c ≡ true → b ≡ false) → cond b x (cond c y z) ≡ cond c y (cond b x z)
swapped true true x y z h = absurd (true≢false (h refl))
swapped true false x y z h = refl
swapped false c x y z h = refl

module _ {K : Type 0} {R : K → K → Ordering} (o : IsTotalOrder R) where
  equal_is : (r : Ordering) → is_eq r ≡ true → r ≡ Equal
  equal_is Less h = absurd (false≢true h)
  equal_is Equal h = refl
  equal_is Greater h = absurd (false≢true h)

  back : (x y : K) → is_eq (R x y) ≡ is_eq (R y x)
  back x y = (eq_by_cmp_equiv o).symm x y

  same_as : (k x q : K) → R k x ≡ Equal → is_eq (R q x) ≡ is_eq (R k q)
  same_as k x q h = sym (ap is_eq (alike_right o k x q h)) ∙ back q k

  apart : (k x q : K) → R k x ≡ Greater → is_eq (R k q) ≡ true → is_eq (R q x) ≡ false
  apart k x q h e = ap is_eq (sym (o.congr k q x (equal_is (R k q) e)) ∙ h)

module _ {K V : Type 0} {R : K → K → Ordering} (o : IsTotalOrder R) (k : K) where
  lookup_insert : (v : V) (es : List (K × V)) (q : K) → lookup (is_at (R q)) (insert_entry R es k v) ≡ cond (eq_by_cmp R k q) (Some v) (lookup (is_at (R q)) es)
  lookup_insert v [] q = ap (λ b. cond b (Some v) None) (back o q k)
  lookup_insert v (e ∷ es) q =
      let rest = lookup (is_at (R q)) es in
      by_answer (R k e.0)
      (λ h. rw (step R k v e es Less h) (ap (λ b. cond b (Some v) (lookup (is_at (R q)) (e ∷ es))) (back o q k)))
      (λ h. rw (step R k v e es Equal h) (once _ _ (Some v) (Some e.1) rest (same_as o k e.0 q h)))
      (λ h. rw (step R k v e es Greater h, lookup_insert v es q) (swapped _ _ (Some e.1) (Some v) rest (apart o k e.0 q h)))

  lookup_remove : (es : List (K × V)) → IsStrictlySortedBy R (keys_of es) → (q : K) → lookup (is_at (R q)) (remove_entry (is_at (R k)) es) ≡ cond (eq_by_cmp R k q) None (lookup (is_at (R q)) es)
  lookup_remove es s q = lookup-remove_entry (eq_by_cmp_equiv o) (is_at (R k)) (λ x y h. ap is_eq (o.congr k x y (equal_is o (R k x) h))) q es (IsDistinct-from_sorted R (keys_of es) s)

fits : (stood : Bool) (n m l : ℕ) → (stood || ltb n m) ≡ true → n ≤ m → l + one_if stood ≡ n + 1 → l ≤ m
fits true n m l room h e = omega arith
fits false n m l room h e = omega (arith, ltb-true n m room)

module _ {K V : Type 0} {R : K → K → Ordering} (o : IsTotalOrder R) (t : Table K V) (k : K) where
  by_room : {P : Type 0} (b : Bool) → has_room R t k ≡ b → (has_room R t k ≡ true → P) → (has_room R t k ≡ false → P) → P
  by_room true h f g = f h
  by_room false h f g = g h

  pub kept_put : (v : V) → IsKept R t → IsKept R (put_in R t k v)
  kept_put v kept = by_room _ refl
      (λ room. rw (cond-true _ _ _ room) (record {
        rising = sorted_insert o k v t.entries kept.rising;
        within = fits _ _ _ _ room kept.within (length_insert o k v t.entries kept.rising);
      }))
      (λ none. rw (cond-false _ _ _ none) kept)

  inserted : (v : V) → IsKept R t → Changes R t k (Some v) (record { entries = insert_entry R t.entries k v; most = t.most })
  inserted v kept = record { values = lookup_insert o k v t.entries; count = length_insert o k v t.entries kept.rising; most = refl }

  pub put_law : (v : V) → IsKept R t → OnOk (put_answer R t k v) (Changes R t k (Some v) (put_in R t k v))
  put_law v kept = by_room _ refl
      (λ room. rw (cond-true _ _ _ room) (subst (Changes R t k (Some v)) (sym (cond-true _ _ _ room)) (inserted v kept)))
      (λ none. rw (cond-false _ _ _ none) tt)

  pub kept_without : IsKept R t → IsKept R (without R t k)
  kept_without kept = let l = length_remove o k t.entries in record { rising = sorted_remove o k t.entries kept.rising; within = omega (arith, kept.within) }

  pub remove_law : IsKept R t → Changes R t k None (without R t k)
  remove_law kept = record { values = lookup_remove o k t.entries kept.rising; count = length_remove o k t.entries ∙ omega arith; most = refl }
