-- How the reader goes on. Assumes nothing.
--     may_end s             whether an upload may end in the station s
--     field_opened g name   the station behind the opening tag of a field
--     opened s name         the station behind an opening tag that stands in the state s
--     closed_to s           the state behind a closing tag
--     after s x             the station behind the part x that stands in the station s
--     InField w g i v q     the bytes w lead into a field of the segment g with the ID i: its value so far is v, and q came behind
--     Reached w s           the bytes w lead to the station s
--     Ready u at s          what the reader knows of the next byte
--     StandsAt u at s       the reader may stand at the place in the station
--     Undeclared u r        the refusal r: u does not begin with the declaration
--     Stops u at s r        the refusal r: nothing that may stand in the station does
use Rattle.std.specs.Prelude.{◌≡◌, ℕ, ◌<◌, ◌≤◌, Bool, false, List, [], ◌∷◌, ◌++◌, length, take, slice_index}
use Rattle.grammar.specs.Grammar.{declaration, Value, Id, opening, Leads}
use Rattle.grammar.specs.Threads.{is_done}
use Rattle.grammar.specs.declared.states.Segment.{Segment}
use Rattle.grammar.specs.declared.states.Segment.TheVariants.{Header, Visit, Order}
use Rattle.grammar.specs.declared.states.State.{State}
use Rattle.grammar.specs.declared.states.State.TheVariants.{Start, Records, Record, Within, Headed, Body, Orders, Bodied, Done}
use Rattle.grammar.specs.declared.states.FieldId.{FieldId}
use Rattle.reader.specs.Spans.{Departs, Settles}
use Rattle.reader.specs.Readings.{Part, opens, closed, holds, Fails}
use Rattle.reader.specs.Places.{Fitting, Misplaced}
use Rattle.reader.specs.declared.stations.Station.{Station}
use Rattle.reader.specs.declared.stations.Station.TheVariants.{Between, Opened, Filled}
use Rattle.reader.specs.declared.faults.Cause.{Cause}
use Rattle.reader.specs.declared.faults.Refusal.{Refusal}
use Rattle.reader.specs.declared.faults.Refusal.TheVariants.{Length, Declaration, Unlawful, NoHeader, NoVisit, CutShort, Foreign, TooMany, Call, Row}

abbrev pub may_end : Station → Bool
may_end (Between s) = is_done s
may_end (Opened g i) = false
may_end (Filled g i) = false

abbrev pub field_opened : Segment → List ℕ → Station
field_opened g [] = Between (Within g)
field_opened g (a ∷ []) = Between (Within g)
field_opened g (a ∷ b ∷ []) = Between (Within g)
field_opened g (a ∷ b ∷ c ∷ []) = Opened g (record { letter = a; tens = b; ones = c })
field_opened g (a ∷ b ∷ c ∷ d ∷ r) = Between (Within g)

abbrev pub opened : State → List ℕ → Station
opened Start name = Between Records
opened Records name = Between Record
opened Record name = Between (Within Header)
opened (Within g) name = field_opened g name
opened Headed name = Between Body
opened Body name = Between (Within Visit)
opened Orders name = Between (Within Order)
opened Bodied name = Between Bodied
opened Done name = Between Done

abbrev pub closed_to : State → State
closed_to Start = Start
closed_to Records = Done
closed_to Record = Record
closed_to (Within Header) = Headed
closed_to (Within Visit) = Orders
closed_to (Within Order) = Orders
closed_to Headed = Headed
closed_to Body = Body
closed_to Orders = Bodied
closed_to Bodied = Records
closed_to Done = Done

abbrev pub after : Station → Part → Station
after (Between s) (opens name at) = opened s name
after (Between s) (closed name at) = Between (closed_to s)
after (Between s) (holds v at) = Between s
after (Opened g i) (opens name at) = Opened g i
after (Opened g i) (closed name at) = Opened g i
after (Opened g i) (holds v at) = Filled g i
after (Filled g i) (opens name at) = Filled g i
after (Filled g i) (closed name at) = Between (Within g)
after (Filled g i) (holds v at) = Filled g i

pub record InField (w : List ℕ) (g : Segment) (i : FieldId) (v q : List ℕ) : Type 0 where
  pub before : List ℕ
  pub leads : Leads before (Within g)
  pub id : Id i
  pub value : Value v
  pub is : w ≡ before ++ (opening i ++ (v ++ q))

abbrev pub Reached : List ℕ → Station → Type 0
Reached w (Between s) = Leads w s
Reached w (Opened g i) = InField w g i [] []
Reached w (Filled g i) = (v : List ℕ) × InField w g i v []

abbrev pub Ready : List ℕ → ℕ → Station → Type 0
Ready u at (Between s) = Settles u at
Ready u at (Opened g i) = Unit {0}
Ready u at (Filled g i) = slice_index u at ≡ 0x3c

pub record StandsAt (u : List ℕ) (at : ℕ) (s : Station) : Type 0 where
  pub within : at ≤ length u
  pub reached : Reached (take at u) s
  pub ready : Ready u at s

abbrev pub Undeclared : List ℕ → Refusal → Type 0
Undeclared u Length = ⊥
Undeclared u (Declaration k) = (k ≤ length u) × Departs u 0 declaration k
Undeclared u (Unlawful c k) = ⊥
Undeclared u (NoHeader k) = ⊥
Undeclared u (NoVisit k) = ⊥
Undeclared u (CutShort k) = ⊥
Undeclared u (Foreign k) = ⊥
Undeclared u (TooMany k) = ⊥
Undeclared u Call = ⊥
Undeclared u (Row k) = ⊥

abbrev pub Suits : List ℕ → ℕ → Station → Type 0
Suits u at (Between s) = Fitting u at s
Suits u at (Opened g i) = Unit {0}
Suits u at (Filled g i) = Unit {0}

abbrev pub Misses : List ℕ → ℕ → Station → Refusal → Type 0
Misses u at (Between s) r = Misplaced u at s r
Misses u at (Opened g i) r = ⊥
Misses u at (Filled g i) r = ⊥

abbrev pub Stops : List ℕ → ℕ → Station → Refusal → Type 0
Stops u at s Length = ⊥
Stops u at s (Declaration k) = ⊥
Stops u at s (Unlawful c k) = (k < length u) × Fails u at s c k × Suits u at s
Stops u at s (NoHeader k) = Misses u at s (NoHeader k)
Stops u at s (NoVisit k) = Misses u at s (NoVisit k)
Stops u at s (CutShort k) = (k ≡ length u) × ((c : Cause) × Fails u at s c k)
Stops u at s (Foreign k) = ⊥
Stops u at s (TooMany k) = ⊥
Stops u at s Call = ⊥
Stops u at s (Row k) = ⊥
