-- A session: bytes in, one by one, and an answer out for each line. Assumes nothing.
--     tally_with t a        the tally t with the answer a
--     Fed s b r u           the session s is fed the byte b, answers r and is u then
--     Counted given t       the tally t counts the answers of each kind, as far as 64 bits go
--     Told bs given s       the session s has read the bytes and given the answers: in order, one for each line that has ended
--     Complete bs given t   the answers are those to all the lines of the bytes, the last perhaps without its line feed, and t counts them
use Rattle.std.specs.Prelude.{◌≡◌, ℕ, ◌+◌, ◌-◌, ◌^◌, min, List, [], ◌∷◌, ◌++◌, map, take, Some, None, Ok, Err, is_ok, is_err, count_by, Option, ◌≢◌}
use Rattle.visits.specs.Answers.{Answer, reply_to, wording}
use Rattle.visits.specs.Lines.{line_feed, Cut, rest}
use Rattle.visits.specs.declared.session.Session.{Session}
use Rattle.visits.specs.declared.tally.Tally.{Tally}

abbrev pub capped_count : ℕ → ℕ
capped_count n = min n (2 ^ 64 - 1)

abbrev pub tally_with : Tally → Answer → Tally
tally_with t (Ok d) = record { due = capped_count (t.due + 1); no_day = t.no_day }
tally_with t (Err e) = record { due = t.due; no_day = capped_count (t.no_day + 1) }

pub record Counted (given : List Answer) (t : Tally) : Type 0 where
  pub due : t.due ≡ capped_count (count_by is_ok given)
  pub none : t.no_day ≡ capped_count (count_by is_err given)

-- a line is ended and answered, and another begins
pub record Ended (s : Session) (a : Answer) (u : Session) : Type 0 where
  pub answer : wording a ≡ reply_to s.line.items
  pub line : u.line.items ≡ []
  pub tally : u.tally ≡ tally_with s.tally a

-- a line goes on; what matters of it is kept
pub record WentOn (s : Session) (b : ℕ) (u : Session) : Type 0 where
  pub line : u.line.items ≡ take 15 (s.line.items ++ b ∷ [])
  pub tally : u.tally ≡ s.tally

abbrev pub Fed : Session → ℕ → Option Answer → Session → Type 0
Fed s b None u = (b ≢ line_feed) × WentOn s b u
Fed s b (Some a) u = (b ≡ line_feed) × Ended s a u

pub record Told (bs : List ℕ) (given : List Answer) (s : Session) : Type 0 where
  pub ended : List (List ℕ)
  pub begun : List ℕ
  pub cut : Cut bs ended begun
  pub answered : map wording given ≡ map reply_to ended
  pub counted : Counted given s.tally
  pub kept : s.line.items ≡ take 15 begun

pub record Complete (bs : List ℕ) (given : List Answer) (t : Tally) : Type 0 where
  pub ended : List (List ℕ)
  pub begun : List ℕ
  pub cut : Cut bs ended begun
  pub answered : map wording given ≡ map reply_to (ended ++ rest begun)
  pub counted : Counted given t
