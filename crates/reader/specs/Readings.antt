-- Reading one token. Assumes nothing.
--     Part                      a token without its loan: opens name at, closes name at, holds value at
--     part x                    what a token holds
--     structure_part t at       a tag of the structure, as a part
--     ReadsStructure, ReadsOpening, OpeningMissing    what stands, or does not, where such a tag must
--     Reading u at s x n to     in the station s the part x stands at the place; behind it, at the place to, the station is n
--     Reads u at s x to         there is such a station
--     Fails u at s c k          in the station s no part stands at the place: it breaks off at k, with the cause c
--     Breaks u at s f           the fault f says so
use Rattle.std.specs.Prelude.{◌≡◌, ℕ, ◌<◌, List, [], ◌∷◌, ◌++◌, length, drop, slice_index, codes}
use Rattle.grammar.specs.Ahead.{closes}
use Rattle.grammar.specs.Grammar.{Value, Id, letters, opening, closing, name, spelling, Turn}
use Rattle.grammar.specs.Tags.{wanted}
use Rattle.grammar.specs.declared.states.Segment.{Segment}
use Rattle.grammar.specs.declared.states.State.{State}
use Rattle.grammar.specs.declared.states.State.TheVariants.{Within}
use Rattle.grammar.specs.declared.states.Tag.{Tag}
use Rattle.grammar.specs.declared.states.Tag.TheVariants as tag
use Rattle.grammar.specs.declared.states.FieldId.{FieldId}
use Rattle.grammar.specs.declared.states.Wanted.TheVariants as want
use Rattle.reader.specs.Spans.{Spans, Departs, Whites, Settles}
use Rattle.reader.specs.Scans.{ClassesBreak, ValueBreaksAt}
use Rattle.reader.specs.declared.classes.Class.{Class}
use Rattle.reader.specs.declared.classes.Class.TheVariants.{Byte, Capital, Digit}
use Rattle.reader.specs.declared.stations.Station.{Station}
use Rattle.reader.specs.declared.stations.Station.TheVariants.{Between, Opened, Filled}
use Rattle.reader.specs.declared.stations.Token.{Token}
use Rattle.reader.specs.declared.stations.Token.TheVariants as token
use Rattle.reader.specs.declared.faults.Cause.{Cause}
use Rattle.reader.specs.declared.faults.Cause.TheVariants as cause
use Rattle.reader.specs.declared.faults.TagFault.{TagFault}
use Rattle.reader.specs.declared.faults.TagFault.TheVariants.{Wrong, Ended}

pub data Part : Type 0 where
  opens : List ℕ → ℕ → Part
  closed : List ℕ → ℕ → Part
  holds : List ℕ → ℕ → Part

abbrev pub part : Token → Part
part (token.Open name place) = opens name.now place
part (token.Close name place) = closed name.now place
part (token.Value bytes place) = holds bytes.now place

abbrev pub structure_part : Tag → ℕ → Part
structure_part (tag.Open e) at = opens (name e) at
structure_part (tag.Close e) at = closed (name e) at

abbrev pub opening_classes : List Class
opening_classes = Byte 0x3c ∷ Capital ∷ Digit ∷ Digit ∷ Byte 0x3e ∷ []

pub record ReadsStructure (u : List ℕ) (at : ℕ) (t : Tag) (x : Part) (to : ℕ) : Type 0 where
  pub is : x ≡ structure_part t at
  pub skipped : List ℕ
  pub white : Whites skipped
  pub spans : Spans u at (spelling t ++ skipped) to
  pub settles : Settles u to

pub record ReadsOpening (u : List ℕ) (at : ℕ) (x : Part) (to : ℕ) : Type 0 where
  pub field : FieldId
  pub id : Id field
  pub is : x ≡ opens (letters field) at
  pub spans : Spans u at (opening field) to

abbrev pub OpeningMissing : List ℕ → ℕ → TagFault → Type 0
OpeningMissing u at (Wrong c k) = (c ≡ cause.Elsewhere) × (k < length u) × ClassesBreak u at opening_classes k
OpeningMissing u at (Ended k) = (k ≡ length u) × ClassesBreak u at opening_classes k

pub data Reading (u : List ℕ) (at : ℕ) : Station → Part → Station → ℕ → Type 0 where
  structure : {s n : State} {t : Tag} {x : Part} {to : ℕ} → Turn s t n → ReadsStructure u at t x to → Reading u at (Between s) x (Between n) to
  opening_tag : {g : Segment} {x : Part} {to : ℕ} → (r : ReadsOpening u at x to) → Reading u at (Between (Within g)) x (Opened g r.field) to
  value : {g : Segment} {i : FieldId} {v : List ℕ} {to : ℕ} → Value v → Spans u at v to → to < length u → slice_index u to ≡ 0x3c → Reading u at (Opened g i) (holds v at) (Filled g i) to
  closing_tag : {g : Segment} {i : FieldId} {to : ℕ} (v : List ℕ) → Whites v → Spans u at (closing i ++ v) to → Settles u to → Reading u at (Filled g i) (closed (letters i) at) (Between (Within g)) to

abbrev pub Reads : List ℕ → ℕ → Station → Part → ℕ → Type 0
Reads u at s x to = (n : Station) × Reading u at s x n to

pub data Fails (u : List ℕ) (at : ℕ) : Station → Cause → ℕ → Type 0 where
  in_structure : {s : State} {t : Tag} {k : ℕ} → wanted s (closes (drop at u)) ≡ want.Structure t → Departs u at (spelling t) k → Fails u at (Between s) cause.Elsewhere k
  in_opening : {s : State} {g : Segment} {k : ℕ} → wanted s (closes (drop at u)) ≡ want.Field g → ClassesBreak u at opening_classes k → Fails u at (Between s) cause.Elsewhere k
  behind_all : {s : State} → wanted s (closes (drop at u)) ≡ want.Nothing → Fails u at (Between s) cause.Elsewhere at
  in_value : {g : Segment} {i : FieldId} {k : ℕ} → ValueBreaksAt u at k → Fails u at (Opened g i) cause.Value k
  at_slash : {g : Segment} {i : FieldId} {k : ℕ} → Departs u at (codes "</") k → Fails u at (Filled g i) cause.Elsewhere k
  in_id : {g : Segment} {i : FieldId} {m k : ℕ} → Spans u at (codes "</") m → Departs u m (letters i) k → Fails u at (Filled g i) cause.ClosingId k
  at_end : {g : Segment} {i : FieldId} {m k : ℕ} → Spans u at (codes "</" ++ letters i) m → Departs u m (codes ">") k → Fails u at (Filled g i) cause.Elsewhere k

abbrev pub Breaks : List ℕ → ℕ → Station → TagFault → Type 0
Breaks u at s (Wrong c k) = (k < length u) × Fails u at s c k
Breaks u at s (Ended k) = (k ≡ length u) × ((c : Cause) × Fails u at s c k)
