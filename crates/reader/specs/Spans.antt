-- What stands at a place of an upload. Assumes nothing.
--     Spans u from v to    the bytes v stand in u at the place from, and end at the place to
--     Refuses u k p        u ends at k, or its byte there fails the test p
--     Departs u from t k   from there on the text t stands as far as k, where u ends or has another byte
--     Whites v             v is white space
--     Settles u k          u ends at k, or no white space stands there
--     Halved q             q is nothing, or the first byte of a pair
--     none_after q b       whether b cannot stand in a value behind q, nor end it
use Rattle.std.specs.Prelude.{◌≡◌, ℕ, ◌+◌, ◌<◌, ◌≤◌, Bool, true, false, ◌||◌, List, [], ◌∷◌, ◌++◌, length, take, ◌==◌, slice_index}
use Rattle.grammar.specs.Bytes.{white, plain, lead, trail}

pub record Spans (u : List ℕ) (from : ℕ) (v : List ℕ) (to : ℕ) : Type 0 where
  pub ends : from + length v ≡ to
  pub within : to ≤ length u
  pub is : take to u ≡ take from u ++ v

abbrev pub Refuses : List ℕ → ℕ → (ℕ → Bool) → Type 0
Refuses u k p = k < length u → p (slice_index u k) ≡ false

pub record Departs (u : List ℕ) (from : ℕ) (t : List ℕ) (k : ℕ) : Type 0 where
  pub read : List ℕ
  pub next : ℕ
  pub rest : List ℕ
  pub text : t ≡ read ++ (next ∷ rest)
  pub spans : Spans u from read k
  pub refuses : Refuses u k (λ b. b == next)

abbrev pub Whites : List ℕ → Type 0
Whites [] = Unit {0}
Whites (b ∷ v) = (white b ≡ true) × Whites v

abbrev pub Settles : List ℕ → ℕ → Type 0
Settles u k = Refuses u k white

pub data Halved : List ℕ → Type 0 where
  whole : Halved []
  half : {b : ℕ} → lead b ≡ true → Halved (b ∷ [])

abbrev pub none_after : List ℕ → ℕ → Bool
none_after [] b = b == 0x3c || plain b || lead b
none_after (a ∷ q) b = trail b
