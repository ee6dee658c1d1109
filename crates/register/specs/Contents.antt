-- What a register holds: entries, one at most under each key, and how many it may hold. Assumes nothing.
--     Contents                 the entry at each key, how many keys have one, and how many may
--     IsFinite c               the count is the number of the keys that have an entry, and no greater than the greatest count
--     holding es n             the entries es, of which no two have the same key, with room for n
--     empty n                  nothing, with room for n entries
--     begun n                  what a register made for n entries begins with: nothing, with room for n, or for 65,536 if n is more
--     has_room c k             an entry may be put under k: one stands there, or the greatest count is not reached
--     with_entry c k e         c with the entry e under k
--     put_answer c k           what a put under k is answered
--     put_in c k e             c after e is put under k: as it was, if it has no room for it
--     without c k              c without the entry under k
--     Elsewhere c j P          an entry of which P holds, with its key, stands under a key other than j
--     DispensedElsewhere c k   an entry with the origin k stands under a key other than k
--     TakenElsewhere c k n j   some key but j has an entry that takes the refill n of k
use Rattle.std.specs.Prelude.{◌≡◌, ◌≢◌, ℕ, ◌+◌, ◌-◌, ◌≤◌, Bool, if◌then◌else◌, ◌||◌, List, length, min, Option, Some, None, is_some, IsSomeAnd, nat_lt, Result, Ok, Err}
use Rattle.std.specs.List.{IsDistinct, list_any}
use Rattle.std.specs.Map.{lookup, update}
use Rattle.register.specs.Entries.{Takes}
use Rattle.register.specs.Keys.{same_key}
use Rattle.register.specs.declared.entry.Entry.{Entry}
use Rattle.register.specs.declared.key.Key.{Key}
use Rattle.register.specs.declared.register.Full.{Full}

pub record Contents : Type 0 where
  pub at : Key → Option Entry
  pub count : ℕ
  pub most : ℕ

pub record IsFinite (c : Contents) : Type 0 where
  pub keys : List Key
  pub distinct : IsDistinct same_key keys
  pub these : (k : Key) → is_some (c.at k) ≡ list_any (same_key k) keys
  pub counted : c.count ≡ length keys
  pub within : c.count ≤ c.most

abbrev pub holding : List (Key × Entry) → ℕ → Contents
holding es n = record { at = λ k. lookup (same_key k) es; count = length es; most = n }

abbrev pub empty : ℕ → Contents
empty n = record { at = λ _. None; count = 0; most = n }

abbrev pub begun : ℕ → Contents
begun n = empty (min n 65536)

abbrev pub has_room : Contents → Key → Bool
has_room c k = is_some (c.at k) || nat_lt c.count c.most

abbrev pub with_entry : Contents → Key → Entry → Contents
with_entry c k e = record {
  at = update same_key c.at k (Some e);
  count = if is_some (c.at k) then c.count else c.count + 1;
  most = c.most;
}

abbrev pub put_answer : Contents → Key → Result (Unit {0}) Full
put_answer c k = if has_room c k then Ok tt else Err (record {})

abbrev pub put_in : Contents → Key → Entry → Contents
put_in c k e = if has_room c k then with_entry c k e else c

abbrev pub without : Contents → Key → Contents
without c k = record {
  at = update same_key c.at k None;
  count = if is_some (c.at k) then c.count - 1 else c.count;
  most = c.most;
}

abbrev pub Elsewhere : Contents → Key → (Key → Entry → Type 0) → Type 0
Elsewhere c j P = (k : Key) × (k ≢ j) × IsSomeAnd (c.at k) (P k)

abbrev pub DispensedElsewhere : Contents → Key → Type 0
DispensedElsewhere c k = Elsewhere c k (λ _ e. e.origin ≡ Some k)

abbrev pub TakenElsewhere : Contents → Key → ℕ → Key → Type 0
TakenElsewhere c k n j = Elsewhere c j (Takes k n)
