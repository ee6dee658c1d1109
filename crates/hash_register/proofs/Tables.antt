-- A table, where a search in it has ended. Assumes nothing.
use Rattle.std.proofs.Common.{◌≡◌, ℕ, ◌+◌, ◌-◌, ◌<◌, ◌≤◌, Bool, true, false, not, cond, ◌||◌, nat_lt, List, length, slice_set, ◌⊎◌, inl, inr, Option, Some, None, is_some, Ok, Err, sym, refl, ap, ◌∙◌, subst, arith}
use Rattle.std.proofs.lemmas.Bool.{cases_eq, cases_lt, false≢true, lt-ltb, le-ltb}
use Rattle.std.proofs.lemmas.List.{length-set}
use Rattle.std.proofs.lemmas.Map.{update_same}
use Rattle.std.proofs.lemmas.Option.{none-some}
use Rattle.std.specs.List.{IsDistinct}
use Rattle.std.specs.Map.{keys_of, update}
use Rattle.std.specs.Option.{option_map}
use Rattle.register.proofs.Sameness.{same_equiv, is_same}
use Rattle.register.specs.Contents.{has_room, with_entry, put_in, put_answer, without}
use Rattle.register.specs.Keys.{same_key}
use Rattle.register.specs.declared.entry.Entry.{Entry}
use Rattle.register.specs.declared.key.Key.{Key}
use Rattle.hash_register.proofs.Held.{at, parted, parted_here, parted_empty, length_more, distinct_more, distinct_rest, absent_rest, at_more, at_less, is_nothing, within, place, filled_from}
use Rattle.hash_register.proofs.Reached.{filled_reached}
use Rattle.hash_register.specs.Homes.{home, homes}
use Rattle.hash_register.specs.Slots.{Slot, slot, held, IsRun, is_passed, Ends, Vacates}
use Rattle.hash_register.specs.Tables.{IsTable, table_contents}

passed_filled : (k : Key) (s : Slot) → is_passed k s ≡ true → is_some s ≡ true
passed_filled k None h = h
passed_filled k (Some r) h = refl

-- the slot i has s; ws are the others
record IsFound (xs : List Slot) (k : Key) (i : ℕ) (s : Slot) : Type 0 where
  distinct : IsDistinct same_key (keys_of (held (slice_set xs i None)))
  absent : at (held (slice_set xs i None)) k ≡ None
  at_is : (q : Key) → at (held xs) q ≡ update same_key (at (held (slice_set xs i None))) k (option_map (λ r. r.1) s) q
  count : length (held xs) ≡ length (held (slice_set xs i None)) + cond (is_some s) 1 0

-- the count after a put into a slot that has s
abbrev pub IsCount : ℕ → ℕ → Slot → ℕ → Type 0
IsCount m c s n = ((is_some s ≡ true) × (n ≡ c)) ⊎ ((is_some s ≡ false) × (c < m) × (n ≡ c + 1))

pub record IsPut (m c : ℕ) (xs : List Slot) (k : Key) (e : Entry) (n : ℕ) (ys : List Slot) : Type 0 where
  pub table : IsTable m n ys
  pub answer : Ok tt ≡ put_answer (table_contents m c xs) k
  pub after : table_contents m n ys ≡ put_in (table_contents m c xs) k e

pub record IsRemoved (m c : ℕ) (xs : List Slot) (k : Key) (ys : List Slot) : Type 0 where
  pub held_one : 1 ≤ c
  pub table : IsTable m (c - 1) ys
  pub answer : true ≡ is_some (at (held xs) k)
  pub after : table_contents m (c - 1) ys ≡ without (table_contents m c xs) k

module _ (m c : ℕ) (xs : List Slot) (t : IsTable m c xs) (k : Key) (i : ℕ) (f : Ends xs (home (homes m) k) k i) where
  pub found_within : home (homes m) k < homes m → i < length xs
  found_within h = elim (cases_lt i (length xs)) [
    | inl l ↦ l
    | inr l ↦ absurd (let full = filled_from xs (home (homes m) k) (λ j from to. passed_filled k (slot xs j) (f.passed j from (omega arith))) in omega (arith, t.size, t.within, t.counted))
  ]

  run : IsRun xs (home (homes m) k) i
  run = record { ordered = f.ordered; filled = λ j from to. passed_filled k (slot xs j) (f.passed j from to) }

  absent : slot xs i ≡ None → at (held xs) k ≡ None
  absent none = go (at (held xs) k) refl
    where
      found : (e : Entry) (j : ℕ) → slot xs j ≡ Some (k, e) → ⊥
      found e j is = elim (cases_lt j i) [
        | inl before ↦ false≢true (ap not (sym (same_equiv.refl k)) ∙ ap (is_passed k) (sym is) ∙ f.passed j (t.reached (j, k, e) is).ordered before)
        | inr later ↦ elim (cases_eq i j) [
          | inl here ↦ none-some (k, e) (sym none ∙ ap (slot xs) here ∙ is)
          | inr past ↦ false≢true (ap is_some (sym none) ∙ (t.reached (j, k, e) is).filled i f.ordered (omega arith))
        ]
      ]

      go : (o : Option Entry) → at (held xs) k ≡ o → o ≡ None
      go None is = refl
      go (Some e) is = let (j, at_j) = place xs k e is in absurd (found e j at_j)

  its_own : (r : Key × Entry) → slot xs i ≡ Some r → slot xs i ≡ Some (k, r.1)
  its_own r is = go (same_key k r.0) refl
    where
      go : (b : Bool) → same_key k r.0 ≡ b → slot xs i ≡ Some (k, r.1)
      go false h = absurd (false≢true (sym f.ended ∙ ap (is_passed k) is ∙ ap not h))
      go true h = is ∙ ap (λ x. Some (x, r.1)) (sym (is_same k r.0 h))

  lacks : at (held xs) k ≡ None → (q : Key) → at (held xs) q ≡ update same_key (at (held xs)) k None q
  lacks none q = go (same_key k q) refl
    where
      go : (b : Bool) → same_key k q ≡ b → at (held xs) q ≡ cond b None (at (held xs) q)
      go true h = ap (at (held xs)) (sym (is_same k q h)) ∙ none
      go false h = refl

  found : (s : Slot) → slot xs i ≡ s → IsFound xs k i s
  found None is =
      let same = parted_empty xs i is in
      record {
        distinct = subst (λ ys. IsDistinct same_key (keys_of (held ys))) (sym same) t.distinct;
        absent = ap (λ ys. at (held ys) k) same ∙ absent is;
        at_is = λ q. lacks (absent is) q ∙ ap (λ ys. update same_key (at (held ys)) k None q) (sym same);
        count = omega (arith, ap (λ ys. length (held ys)) same);
      }
  found (Some r) is =
      let here = its_own r is in
      let p = parted_here xs i (k, r.1) (within xs i (k, r.1) here) here in
      record {
        distinct = distinct_rest k r.1 _ _ p t.distinct;
        absent = absent_rest k r.1 _ _ p t.distinct;
        at_is = at_more k r.1 _ _ p t.distinct;
        count = length_more k r.1 _ _ p;
      }

  pub at_found : at (held xs) k ≡ option_map (λ r. r.1) (slot xs i)
  at_found = (found _ refl).at_is k ∙ update_same same_key (at (held (slice_set xs i None))) k (option_map (λ r. r.1) (slot xs i)) k (same_equiv.refl k)

  pub stands : is_some (at (held xs) k) ≡ is_some (slot xs i)
  stands = ap is_some at_found ∙ by (slot xs i)
    where
      by : (s : Slot) → is_some (option_map (λ r. r.1) s) ≡ is_some s
      by None = refl
      by (Some r) = refl

  module _ (l : i < length xs) where
    put_at : (e : Entry) → IsDistinct same_key (keys_of (held (slice_set xs i (Some (k, e))))) → (q : Key) → at (held (slice_set xs i (Some (k, e)))) q ≡ update same_key (at (held xs)) k (Some e) q
    put_at e d q = at_more k e _ _ (parted xs i (Some (k, e)) l) d q ∙ go (same_key k q) ((found _ refl).at_is q)
      where
        go : (b : Bool) → at (held xs) q ≡ cond b (option_map (λ r. r.1) (slot xs i)) (at (held (slice_set xs i None)) q) → cond b (Some e) (at (held (slice_set xs i None)) q) ≡ cond b (Some e) (at (held xs) q)
        go true h = refl
        go false h = sym h

    pub put : (e : Entry) (n : ℕ) → IsCount m c (slot xs i) n → IsPut m c xs k e n (slice_set xs i (Some (k, e)))
    put e n counts =
        let was = found _ refl in
        let p = parted xs i (Some (k, e)) l in
        let d = distinct_more k e _ _ p was.distinct was.absent in
        let more = length_more k e _ _ p in
        let (there, count, few, less) = go was.count counts in
        record {
          table = record {
            distinct = d;
            reached = filled_reached xs i (homes m) t.reached l k e run;
            counted = few ∙ sym more;
            within = less;
            small = t.small;
            size = length-set xs i (Some (k, e)) ∙ t.size;
          };
          answer = ap (λ b. cond b (Ok tt) (Err (record {}))) (sym there);
          after = (λ j. record { at = λ q. put_at e d q j; count = count j; most = m }) ∙ ap (λ b. cond b (with_entry (table_contents m c xs) k e) (table_contents m c xs)) (sym there);
        }
      where
        go : length (held xs) ≡ length (held (slice_set xs i None)) + cond (is_some (slot xs i)) 1 0 → IsCount m c (slot xs i) n
            → (has_room (table_contents m c xs) k ≡ true) × (n ≡ cond (is_some (at (held xs) k)) c (c + 1)) × (n ≡ length (held (slice_set xs i None)) + 1) × (n ≤ m)
        go long (inl (some, is)) =
            let a = stands ∙ some in
            let longer : length (held xs) ≡ length (held (slice_set xs i None)) + 1 = long ∙ ap (λ b. length (held (slice_set xs i None)) + cond b 1 0) some in
            (ap (λ b. b || nat_lt c m) a, is ∙ sym (ap (λ b. cond b c (c + 1)) a), omega (arith, t.counted), omega (arith, t.within))
        go long (inr (none, less, is)) =
            let a = stands ∙ none in
            let as_long : length (held xs) ≡ length (held (slice_set xs i None)) + 0 = long ∙ ap (λ b. length (held (slice_set xs i None)) + cond b 1 0) none in
            (ap (λ b. b || nat_lt c m) a ∙ lt-ltb c m less, is ∙ sym (ap (λ b. cond b c (c + 1)) a), omega (arith, t.counted), omega arith)

    pub removed : (ys : List Slot) → is_some (slot xs i) ≡ true → Vacates (homes m) xs i ys → length ys ≡ length xs → IsRemoved m c xs k ys
    removed ys some v long = go (slot xs i) refl some
      where
        go : (s : Slot) → slot xs i ≡ s → is_some s ≡ true → IsRemoved m c xs k ys
        go None is h = absurd (false≢true h)
        go (Some r) is h =
            let p = v.others k r.1 (its_own r is) in
            let a = stands ∙ some in
            let more = length_more k r.1 _ _ p in
            record {
              held_one = omega (arith, t.counted);
              table = record {
                distinct = distinct_rest k r.1 _ _ p t.distinct;
                reached = v.reached;
                counted = omega (arith, t.counted);
                within = omega (arith, t.within);
                small = t.small;
                size = long ∙ t.size;
              };
              answer = sym a;
              after = λ j. record { at = λ q. at_less k r.1 _ _ p t.distinct q j; count = sym (ap (λ b. cond b (c - 1) c) a) j; most = m };
            }

  module _ (none : is_some (slot xs i) ≡ false) where
    not_there : is_some (at (held xs) k) ≡ false
    not_there = stands ∙ none

    pub without_none : table_contents m c xs ≡ without (table_contents m c xs) k
    without_none = λ j. record { at = λ q. lacks (is_nothing _ not_there) q j; count = sym (ap (λ b. cond b (c - 1) c) not_there) j; most = m }

    module _ (full : c ≡ m) where
      no_room : has_room (table_contents m c xs) k ≡ false
      no_room = ap (λ b. b || nat_lt c m) not_there ∙ le-ltb c m (omega arith)

      pub full_answer : Err (record {}) ≡ put_answer (table_contents m c xs) k
      full_answer = ap (λ b. cond b (Ok tt) (Err (record {}))) (sym no_room)

      pub full_after : (e : Entry) → table_contents m c xs ≡ put_in (table_contents m c xs) k e
      full_after e = ap (λ b. cond b (with_entry (table_contents m c xs) k e) (table_contents m c xs)) (sym no_room)
