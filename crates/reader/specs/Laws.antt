-- What the reading of an upload must answer, whatever way it reads. Assumes nothing.
--     Declared bs            bs begins with the declaration
--     FirstWrong bs k        what stands before the place k begins a lawful upload; with the byte at k, if there is one, no longer
--     Missed bs s t k        bs leads to the state s at the place k, where the tag t must stand, and another tag of the structure does
--     Inside w               w leads into a value, perhaps into a pair of it
--     InClosingId w          w leads into the three bytes of the ID in a field's closing tag
--     Caused w c             c is the cause of a first wrong byte behind w
--     NoneMissed bs          nowhere does another tag stand than <MSH> or <MB1>, where these must
--     Unlawfully bs c k      bs is unlawful otherwise: its first wrong byte stands at k, with the cause c
--     Ends bs k              bs is cut short: it only begins a lawful upload, and k is its length
--     Law bs r               r is the right answer
--     Judged bs r            r is the right answer, and no other is
use Rattle.std.specs.Prelude.{◌≡◌, ℕ, ◌+◌, ◌<◌, ◌≤◌, List, ◌++◌, length, take, Result, Ok, Err, codes}
use Rattle.grammar.specs.Grammar.{declaration, letters, Leads, Lawful, Begins}
use Rattle.grammar.specs.declared.states.Element.TheVariants.{Msh, Mb1}
use Rattle.grammar.specs.declared.states.Segment.{Segment}
use Rattle.grammar.specs.declared.states.State.{State}
use Rattle.grammar.specs.declared.states.State.TheVariants.{Record, Body}
use Rattle.grammar.specs.declared.states.Tag.{Tag}
use Rattle.grammar.specs.declared.states.Tag.TheVariants.{Open}
use Rattle.grammar.specs.declared.states.FieldId.{FieldId}
use Rattle.reader.specs.Spans.{Halved}
use Rattle.reader.specs.Places.{OtherStands}
use Rattle.reader.specs.Moves.{InField}
use Rattle.reader.specs.declared.faults.Cause.{Cause}
use Rattle.reader.specs.declared.faults.Cause.TheVariants.{Value, ClosingId, Elsewhere}
use Rattle.reader.specs.declared.faults.Refusal.{Refusal}
use Rattle.reader.specs.declared.faults.Refusal.TheVariants.{Declaration, Unlawful, NoHeader, NoVisit, CutShort}

abbrev pub Declared : List ℕ → Type 0
Declared bs = (r : List ℕ) × (bs ≡ declaration ++ r)

pub record FirstWrong (bs : List ℕ) (k : ℕ) : Type 0 where
  pub within : k ≤ length bs
  pub begins : Begins (take k bs)
  pub breaks : k < length bs → ¬ Begins (take (k + 1) bs)

pub record Missed (bs : List ℕ) (s : State) (t : Tag) (k : ℕ) : Type 0 where
  pub leads : Leads (take k bs) s
  pub other : OtherStands bs k t

pub record NoneMissed (bs : List ℕ) : Type 0 where
  pub header : (k : ℕ) → ¬ Missed bs Record (Open Msh) k
  pub visit : (k : ℕ) → ¬ Missed bs Body (Open Mb1) k

pub record Inside (w : List ℕ) : Type 0 where
  pub segment : Segment
  pub id : FieldId
  pub value : List ℕ
  pub half : List ℕ
  pub halved : Halved half
  pub field : InField w segment id value half

pub record InClosingId (w : List ℕ) : Type 0 where
  pub segment : Segment
  pub id : FieldId
  pub value : List ℕ
  pub read : ℕ
  pub three : read < 3
  pub field : InField w segment id value (codes "</" ++ take read (letters id))

abbrev pub Caused : List ℕ → Cause → Type 0
Caused w Value = Inside w
Caused w ClosingId = InClosingId w
Caused w Elsewhere = ¬ Inside w × ¬ InClosingId w

pub record Unlawfully (bs : List ℕ) (c : Cause) (k : ℕ) : Type 0 where
  pub declared : Declared bs
  pub some : k < length bs
  pub first : FirstWrong bs k
  pub caused : Caused (take k bs) c
  pub none_missed : NoneMissed bs

pub record Ends (bs : List ℕ) (k : ℕ) : Type 0 where
  pub declared : Declared bs
  pub whole : k ≡ length bs
  pub begins : Begins bs
  pub unlawful : ¬ Lawful bs

pub data Law (bs : List ℕ) : Result (Unit {0}) Refusal → Type 0 where
  taken : {r : Unit {0}} → Lawful bs → Law bs (Ok r)
  undeclared : {k : ℕ} → ¬ Declared bs → FirstWrong bs k → Law bs (Err (Declaration k))
  unlawful : {c : Cause} {k : ℕ} → Unlawfully bs c k → Law bs (Err (Unlawful c k))
  no_header : {k : ℕ} → Missed bs Record (Open Msh) k → Law bs (Err (NoHeader k))
  no_visit : {k : ℕ} → Missed bs Body (Open Mb1) k → Law bs (Err (NoVisit k))
  cut_short : {k : ℕ} → Ends bs k → Law bs (Err (CutShort k))

pub record Judged (bs : List ℕ) (r : Result (Unit {0}) Refusal) : Type 0 where
  pub law : Law bs r
  pub only : (q : Result (Unit {0}) Refusal) → Law bs q → r ≡ q
