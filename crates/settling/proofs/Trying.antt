-- A refill that is tried is one of nine. Assumes nothing.
use Rattle.std.proofs.Common.{◌≡◌, ℕ, ◌+◌, ◌-◌, ◌<◌, ◌≤◌, Bool, true, false, get_or, Some, MatchBool, refl, sym, ◌∙◌, subst, arith, ◌&&◌}
use Rattle.std.proofs.lemmas.Bool.{false≢true}
use Rattle.std.proofs.lemmas.Bool.Decides.{nat_tests}
use Rattle.std.proofs.lemmas.List.FromFn.{get_or-range_with_len}
use Rattle.std.proofs.lemmas.Iterator.Search.{true_from_Any}
use Rattle.std.specs.List.{AllWithin, HoldsAt, Contains}
use Rattle.std.specs.Prelude.{◌↔◌, IsTrue, IsSomeAnd}
use Rattle.register.specs.Contents.{Contents, TakenElsewhere}
use Rattle.register.specs.Entries.{source}
use Rattle.register.specs.Refills.{is_refill, has_refill}
use Rattle.register.specs.declared.entry.Entry.{Entry}
use Rattle.register.specs.declared.key.Key.{Key}
use Rattle.settling.specs.Against.{refill_numbers, TakesTaken}

numbered : (i d : ℕ) → i < 9 → get_or refill_numbers i d ≡ i + 1
numbered i d h = get_or-range_with_len 1 9 i d h ∙ omega arith

within : (n : ℕ) → IsTrue (is_refill n) → (1 ≤ n) × (n ≤ 9)
within n h = grind (arith, nat_tests)

is_one : (i d : ℕ) → i < 9 → IsTrue (is_refill (get_or refill_numbers i d))
is_one i d h = let e = numbered i d h in grind (arith, nat_tests)

listed : (n : ℕ) → IsTrue (is_refill n) → Contains refill_numbers n
listed n h = let w = within n h in (n - 1, omega arith, numbered (n - 1) n (omega arith) ∙ omega arith)

-- the refill n of o, which the entry e takes from, is taken under another key than k
abbrev pub Taken : Contents → Key → Entry → Key → ℕ → Type 0
Taken c k e o n = IsTrue (has_refill e.refills n) × TakenElsewhere c o n k

both : (a b : Bool) → IsTrue (a && b) → IsTrue a × IsTrue b
both a b h = grind (arith, nat_tests)

module _ (c : Contents) (k : Key) (e : Entry) (o : Key) (from : source k e ≡ Some o) where
  found : (r : Bool) → MatchBool r ((i : ℕ) × (i < 9) × HoldsAt (Taken c k e o) refill_numbers i) (AllWithin (λ n. ¬ Taken c k e o n) refill_numbers 0 9) → IsTrue r → TakesTaken c k e
  found false h t = absurd (false≢true t)
  found true h t =
      let n = get_or refill_numbers h.0 0 in
      let is : IsTrue (is_refill n) = is_one h.0 0 h.1 in
      (n, rw (is, (h.2 0).0) refl, subst (λ s. IsSomeAnd s (λ q. TakenElsewhere c q n k)) (sym from) (h.2 0).1)

  pub tried : (r : Bool) → MatchBool r ((i : ℕ) × (i < 9) × HoldsAt (Taken c k e o) refill_numbers i) (AllWithin (λ n. ¬ Taken c k e o n) refill_numbers 0 9) → IsTrue r ↔ TakesTaken c k e
  tried r tells = (
    found r tells,
    λ t.
        let w = both _ _ t.1 in
        true_from_Any (Taken c k e o) (λ n. ¬ Taken c k e o n) r refill_numbers (λ n p q. q p) tells t.0 (listed t.0 w.0) (w.1, subst (λ s. IsSomeAnd s (λ q. TakenElsewhere c q t.0 k)) from t.2),
  )
