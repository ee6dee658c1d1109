-- Slots, each with a key and its entry or empty. Assumes nothing.
--     Slot               a key with its entry, or nothing
--     slot xs i          what stands in the slot i of xs: nothing past the end
--     held xs            the keys and entries of xs, in the order of the slots
--     passes test s      something stands in the slot s, and passes the test
--     IsRun xs a b       a ≤ b, and no slot from a on and before b is empty
--     IsReached n xs     each key stands at its home among n or after it, with no empty slot between
--     is_passed k s      a search for k goes on past s: another key stands there
--     Ends xs a k i      a search for k from a on ends at i, the first slot that is empty or has k
--     Follows n xs g i   the key in the slot i, past g, has its home among n at g or before it
--     Vacates n xs g ys  ys has each key of xs with its entry, but for that in the slot g, and each is reached
use Rattle.std.specs.Prelude.{◌≡◌, ℕ, ◌<◌, ◌≤◌, Bool, true, false, not, List, ◌∷◌, length, filter_map, Option, Some, None, is_some, IsSomeAnd, slice_index_or}
use Rattle.std.specs.List.Sorted.{IsPermutation}
use Rattle.register.specs.Keys.{same_key}
use Rattle.register.specs.declared.entry.Entry.{Entry}
use Rattle.register.specs.declared.key.Key.{Key}
use Rattle.hash_register.specs.Homes.{home}

abbrev pub Slot : Type 0
Slot = Option (Key × Entry)

abbrev pub slot : List Slot → ℕ → Slot
slot xs i = slice_index_or xs i None

abbrev pub held : List Slot → List (Key × Entry)
held xs = filter_map (λ s. s) xs

abbrev pub passes : (Key × Entry → Bool) → Slot → Bool
passes test None = false
passes test (Some r) = test r

pub record IsRun (xs : List Slot) (a b : ℕ) : Type 0 where
  pub ordered : a ≤ b
  pub filled : (i : ℕ) → a ≤ i → i < b → is_some (slot xs i) ≡ true

abbrev pub IsReached : ℕ → List Slot → Type 0
IsReached n xs = (p : ℕ × Key × Entry) → slot xs p.0 ≡ Some (p.1, p.2) → IsRun xs (home n p.1) p.0

abbrev pub is_passed : Key → Slot → Bool
is_passed k None = false
is_passed k (Some r) = not (same_key k r.0)

pub record Ends (xs : List Slot) (a : ℕ) (k : Key) (i : ℕ) : Type 0 where
  pub ordered : a ≤ i
  pub within : i ≤ length xs
  pub passed : (j : ℕ) → a ≤ j → j < i → is_passed k (slot xs j) ≡ true
  pub ended : is_passed k (slot xs i) ≡ false

abbrev pub Follows : ℕ → List Slot → ℕ → ℕ → Type 0
Follows n xs g i = (g < i) × IsSomeAnd (slot xs i) (λ r. home n r.0 ≤ g)

pub record Vacates (n : ℕ) (xs : List Slot) (g : ℕ) (ys : List Slot) : Type 0 where
  pub reached : IsReached n ys
  pub others : (k : Key) (e : Entry) → slot xs g ≡ Some (k, e) → IsPermutation ((k, e) ∷ held ys) (held xs)
