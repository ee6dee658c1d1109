-- A table whose entries stand in the order of their keys. Assumes nothing.
--     Table K V              its entries in that order, and how many there may be
--     IsKept cmp t           the keys rise strictly, and there are no more entries than may be
--     empty n                no entries, and n may come
--     at cmp t k             the value at the key k
--     has_room cmp t k       a value may be put under k: one stands there, or there are fewer entries than may be
--     put_answer cmp t k v   what a put of v under k is answered: the value that stood there, or k and v, if there is no room
--     put_in cmp t k v       t after it: with v at k, or as it was, if there is no room
--     Puts cmp t k v r u     r is that answer, and u what is left
--     without cmp t k        t without the entry at k
--     Removes cmp t k r u    r is the value that stood at k, and u what is left without it
--     one_if b               1 if b holds, else 0
--     Changes cmp t k w u    u is t with w at k: other keys keep their values, the count follows, the greatest count stays
use Rattle.std.specs.Prelude.{◌≡◌, ℕ, ◌+◌, ◌≤◌, Bool, if◌then◌else◌, ◌||◌, List, [], length, Option, Result, Ok, Err, is_some, nat_lt}
use Rattle.std.specs.declared.cmp.Ordering.{Ordering}
use Rattle.std.specs.BTreeMap.{insert_entry, is_at}
use Rattle.std.specs.List.Sorted.{IsStrictlySortedBy}
use Rattle.std.specs.Map.{keys_of, lookup, remove_entry, update}
use Rattle.std.specs.Ordering.{eq_by_cmp}

pub record Table (K V : Type 0) : Type 0 where
  pub entries : List (K × V)
  pub most : ℕ

abbrev pub empty : {K V : Type 0} → ℕ → Table K V
empty n = record { entries = []; most = n }

module _ {K V : Type 0} (cmp : K → K → Ordering) (t : Table K V) where
  pub record IsKept : Type 0 where
    pub rising : IsStrictlySortedBy cmp (keys_of t.entries)
    pub within : length t.entries ≤ t.most

module _ {K V : Type 0} (cmp : K → K → Ordering) (t : Table K V) (k : K) where
  abbrev pub at : Option V
  at = lookup (is_at (cmp k)) t.entries

  abbrev pub has_room : Bool
  has_room = is_some at || nat_lt (length t.entries) t.most

  abbrev pub put_answer : V → Result (Option V) (K × V)
  put_answer v = if has_room then Ok at else Err (k, v)

  abbrev pub put_in : V → Table K V
  put_in v = if has_room then record { entries = insert_entry cmp t.entries k v; most = t.most } else t

  pub record Puts (v : V) (r : Result (Option V) (K × V)) (u : Table K V) : Type 0 where
    pub answer : r ≡ put_answer v
    pub after : u ≡ put_in v

  abbrev pub without : Table K V
  without = record { entries = remove_entry (is_at (cmp k)) t.entries; most = t.most }

  pub record Removes (r : Option V) (u : Table K V) : Type 0 where
    pub answer : r ≡ at
    pub after : u ≡ without

abbrev pub one_if : Bool → ℕ
one_if b = if b then 1 else 0

pub record Changes {K V : Type 0} (cmp : K → K → Ordering) (t : Table K V) (k : K) (w : Option V) (u : Table K V) : Type 0 where
  pub values : (q : K) → at cmp u q ≡ update (eq_by_cmp cmp) (at cmp t) k w q
  pub count : length u.entries + one_if (is_some (at cmp t k)) ≡ length t.entries + one_if (is_some w)
  pub most : u.most ≡ t.most
