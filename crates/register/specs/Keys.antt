-- Keys. Assumes nothing.
--     are_signs n bs   whether the bytes are n of A to Z and 0 to 9
--     key_in s i       the key that the bytes s and i write, if they write one: ten and twenty of A to Z and 0 to 9
--     same_key a b     whether the keys a and b are the same
--     key_cmp a b      how a and b compare, byte by byte, sender first
--     OrderOfKeys c    the comparison c orders the keys byte by byte, sender first; it is total, and no two keys are equal
use Rattle.std.specs.Prelude.{◌≡◌, ℕ, ◌<◌, ◌∷◌, ◌++◌, Bool, ◌&&◌, ◌==◌, if◌then◌else◌, List, length, Option, Some, None}
use Rattle.std.specs.declared.cmp.Ordering.{Ordering}
use Rattle.std.specs.declared.cmp.Ordering.TheVariants.{Less, Equal}
use Rattle.std.specs.Cmp.{IsTotalOrder}
use Rattle.std.specs.Cmp.Lexicographic.{slice_cmp}
use Rattle.std.specs.List.{list_all}
use Rattle.std.specs.Ordering.{nat_cmp, on, then_cmp}
use Rattle.std.specs.Str.{bytes_eq}
use Rattle.grammar.specs.Bytes.{is_sign}
use Rattle.register.specs.declared.key.Key.{Key}

abbrev pub are_signs : ℕ → List ℕ → Bool
are_signs n bs = length bs == n && list_all is_sign bs

abbrev pub key_in : List ℕ → List ℕ → Option Key
key_in s i = if are_signs 10 s && are_signs 20 i then Some (record { sender = s; identifier = i }) else None

abbrev pub key_cmp : Key → Key → Ordering
key_cmp = then_cmp (on (λ k. k.sender) (slice_cmp nat_cmp)) (on (λ k. k.identifier) (slice_cmp nat_cmp))

abbrev pub same_key : Key → Key → Bool
same_key a b = bytes_eq a.sender b.sender && bytes_eq a.identifier b.identifier

-- the first byte that differs decides: of the senders, and of the identifiers where the senders are the same
pub record OrderOfKeys (cmp : Key → Key → Ordering) : Type 0 where
  pub total : IsTotalOrder cmp
  pub same : (a b : Key) → cmp a b ≡ Equal → a ≡ b
  pub senders : (x y : ℕ) (front s t : List ℕ) (a b : Key) → x < y → a.sender ≡ front ++ x ∷ s → b.sender ≡ front ++ y ∷ t → cmp a b ≡ Less
  pub identifiers : (x y : ℕ) (front s t : List ℕ) (a b : Key) → x < y → a.sender ≡ b.sender → a.identifier ≡ front ++ x ∷ s
      → b.identifier ≡ front ++ y ∷ t → cmp a b ≡ Less
