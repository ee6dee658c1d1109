-- The grammar byte by byte, as a test that computes. Assumes nothing.
--     Thread              one way in which the bytes so far may go on: what is still to come of the piece under way
--     After m t w         from the thread t the bytes w lead to the state m
--     SomeAfter m ts w   from some thread of ts they do
--     opens s             the threads behind a < in the state s
--     step x t            the threads behind one byte more
--     run ts w            the threads behind all of w
--     start               the thread of a whole upload
--     is_lawful_from s w      whether w ends an upload from the state s
--     is_lawful bs      whether bs is a lawful upload
use Rattle.std.specs.Prelude.{◌≡◌, ℕ, Bool, true, false, cond, ◌||◌, ◌⊎◌, List, [], ◌∷◌, ◌++◌, codes, ◌==◌}
use Rattle.calendar.specs.Digits.{is_digit}
use Rattle.grammar.specs.Bytes.{white, plain, lead, trail, capital}
use Rattle.grammar.specs.Grammar.{Path, name, letters, declaration}
use Rattle.grammar.specs.Tags.{element, behind}
use Rattle.grammar.specs.declared.states.Segment.{Segment}
use Rattle.grammar.specs.declared.states.Segment.TheVariants.{Header, Visit, Order}
use Rattle.grammar.specs.declared.states.State.{State}
use Rattle.grammar.specs.declared.states.State.TheVariants.{Start, Records, Record, Within, Headed, Body, Orders, Bodied, Done}
use Rattle.grammar.specs.declared.states.Tag.TheVariants.{Close}
use Rattle.grammar.specs.declared.states.FieldId.{FieldId}

pub data Thread : Type 0 where
  spells : List ℕ → State → Thread  -- these bytes, then the state; with none left, the state itself
  named : Segment → Thread  -- the three bytes of an ID, in a field of the segment
  tens : Segment → ℕ → Thread
  ones : Segment → ℕ → ℕ → Thread
  shut : Segment → FieldId → Thread  -- the > behind them
  value : Segment → FieldId → Thread  -- a value, and what follows it
  trails : Segment → FieldId → Thread  -- the second byte of a pair
  slash : Segment → FieldId → Thread  -- the / of the closing tag
  repeats : List ℕ → Segment → Thread  -- these bytes of the ID again, and the >

pub data InValue (m : State) (g : Segment) (i : FieldId) : List ℕ → Type 0 where
  closes : {w : List ℕ} → Path (Within g) w m → InValue m g i (codes "</" ++ (letters i ++ (codes ">" ++ w)))
  one : {x : ℕ} {w : List ℕ} → plain x ≡ true → InValue m g i w → InValue m g i (x ∷ w)
  pair : {x y : ℕ} {w : List ℕ} → lead x ≡ true → trail y ≡ true → InValue m g i w → InValue m g i (x ∷ y ∷ w)

abbrev pub Spelt : State → List ℕ → State → List ℕ → Type 0
Spelt m [] s w = Path s w m
Spelt m (x ∷ t) s [] = ⊥
Spelt m (x ∷ t) s (b ∷ w) = (b ≡ x) × Spelt m t s w

abbrev pub After : State → Thread → List ℕ → Type 0
After m (spells t s) w = Spelt m t s w
After m (named g) [] = ⊥
After m (named g) (x ∷ w) = (capital x ≡ true) × After m (tens g x) w
After m (tens g a) [] = ⊥
After m (tens g a) (x ∷ w) = (is_digit x ≡ true) × After m (ones g a x) w
After m (ones g a b) [] = ⊥
After m (ones g a b) (x ∷ w) = (is_digit x ≡ true) × After m (shut g (record { letter = a; tens = b; ones = x })) w
After m (shut g i) [] = ⊥
After m (shut g i) (x ∷ w) = (x ≡ 0x3e) × InValue m g i w
After m (value g i) w = InValue m g i w
After m (trails g i) [] = ⊥
After m (trails g i) (x ∷ w) = (trail x ≡ true) × InValue m g i w
After m (slash g i) w = Spelt m (0x2f ∷ (letters i ++ (0x3e ∷ []))) (Within g) w
After m (repeats t g) w = Spelt m (t ++ (0x3e ∷ [])) (Within g) w

abbrev pub SomeAfter : State → List Thread → List ℕ → Type 0
SomeAfter m [] w = ⊥
SomeAfter m (t ∷ ts) w = After m t w ⊎ SomeAfter m ts w

abbrev pub opens : State → List Thread
opens Start = spells (codes "RECS>") Records ∷ []
opens Records = spells (codes "REC>") Record ∷ spells (codes "/RECS>") Done ∷ []
opens Record = spells (codes "MSH>") (Within Header) ∷ []
opens (Within g) = spells (0x2f ∷ (name (element g) ++ codes ">")) (behind (Close (element g))) ∷ named g ∷ []
opens Headed = spells (codes "MB>") Body ∷ []
opens Body = spells (codes "MB1>") (Within Visit) ∷ []
opens Orders = spells (codes "MB2>") (Within Order) ∷ spells (codes "/MB>") Bodied ∷ []
opens Bodied = spells (codes "/REC>") Records ∷ []
opens Done = []

abbrev pub when : Bool → Thread → List Thread
when b t = cond b (t ∷ []) []

abbrev pub step : ℕ → Thread → List Thread
step x (spells [] s) = cond (white x) (spells [] s ∷ []) (cond (x == 0x3c) (opens s) [])
step x (spells (y ∷ t) s) = when (x == y) (spells t s)
step x (named g) = when (capital x) (tens g x)
step x (tens g a) = when (is_digit x) (ones g a x)
step x (ones g a b) = when (is_digit x) (shut g (record { letter = a; tens = b; ones = x }))
step x (shut g i) = when (x == 0x3e) (value g i)
step x (value g i) = cond (x == 0x3c) (slash g i ∷ []) (cond (plain x) (value g i ∷ []) (when (lead x) (trails g i)))
step x (trails g i) = when (trail x) (value g i)
step x (slash g i) = when (x == 0x2f) (repeats (letters i) g)
step x (repeats [] g) = when (x == 0x3e) (spells [] (Within g))
step x (repeats (y ∷ t) g) = when (x == y) (repeats t g)

abbrev pub steps : ℕ → List Thread → List Thread
steps x [] = []
steps x (t ∷ ts) = step x t ++ steps x ts

abbrev pub run : List Thread → List ℕ → List Thread
run ts [] = ts
run ts (x ∷ bs) = run (steps x ts) bs

abbrev pub start : List Thread
start = spells declaration Start ∷ []

abbrev pub is_done : State → Bool
is_done Start = false
is_done Records = false
is_done Record = false
is_done (Within g) = false
is_done Headed = false
is_done Body = false
is_done Orders = false
is_done Bodied = false
is_done Done = true

abbrev pub ended : List Thread → Bool
ended [] = false
ended (spells [] s ∷ ts) = is_done s || ended ts
ended (spells (x ∷ t) s ∷ ts) = ended ts
ended (named g ∷ ts) = ended ts
ended (tens g a ∷ ts) = ended ts
ended (ones g a b ∷ ts) = ended ts
ended (shut g i ∷ ts) = ended ts
ended (value g i ∷ ts) = ended ts
ended (trails g i ∷ ts) = ended ts
ended (slash g i ∷ ts) = ended ts
ended (repeats t g ∷ ts) = ended ts

unfoldable pub is_lawful_from : State → List ℕ → Bool
is_lawful_from s w = ended (run (spells [] s ∷ []) w)

unfoldable pub is_lawful : List ℕ → Bool
is_lawful bs = ended (run start bs)
