-- Entries. Assumes nothing.
--     is_from o k            the key o is there and is k
--     source own e           the key from which the entry e, standing under `own`, takes its refills, if it takes any: from its origin,
--                            and without one from its own key, unless its category is that of a dispensing
--     Takes k n own e        the entry e, standing under `own`, takes the refill n of k
--     dispenses k own e      whether e, standing under `own`, has the origin k, and `own` is another key
--     takes_for k n j own e  whether e, standing under `own`, takes the refill n of k, and `own` is another key than j
use Rattle.std.specs.Prelude.{◌≡◌, ℕ, Bool, false, IsTrue, ◌&&◌, not, if◌then◌else◌, Option, Some, None}
use Rattle.register.specs.Categories.{is_dispensing}
use Rattle.register.specs.Keys.{same_key}
use Rattle.register.specs.Refills.{has_refill}
use Rattle.register.specs.declared.entry.Entry.{Entry}
use Rattle.register.specs.declared.key.Key.{Key}

abbrev pub is_from : Option Key → Key → Bool
is_from None k = false
is_from (Some o) k = same_key o k

abbrev pub source : Key → Entry → Option Key
source own e = unless_origin e.origin
  where
    unless_origin : Option Key → Option Key
    unless_origin None = if is_dispensing e.category then None else Some own
    unless_origin (Some k) = Some k

abbrev pub Takes : Key → ℕ → Key → Entry → Type 0
Takes k n own e = (source own e ≡ Some k) × IsTrue (has_refill e.refills n)

abbrev pub dispenses : Key → Key → Entry → Bool
dispenses k own e = not (same_key own k) && is_from e.origin k

abbrev pub takes_for : Key → ℕ → Key → Key → Entry → Bool
takes_for k n j own e = not (same_key own j) && (is_from (source own e) k && has_refill e.refills n)
