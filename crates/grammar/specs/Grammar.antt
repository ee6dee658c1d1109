-- The lawful uploads. Assumes nothing.
--     declaration         what every upload begins with
--     Value v             v may stand in a field
--     Id i                i names a field: a capital letter and two digits
--     opening, closing    a field's tags
--     spelling t          a tag of the structure
--     Turn s t n          in the state s the tag t may stand, and leads to the state n
--     Path s w n          the bytes w lead from the state s to the state n
--     Rest s w            from the state s the bytes w end an upload
--     Leads u s           an upload that begins with u stands in the state s behind it
--     Lawful bs           bs is a lawful upload, length and counts aside
--     Begins bs           some lawful upload begins with bs
use Rattle.std.specs.Prelude.{◌≡◌, ℕ, true, List, [], ◌∷◌, ◌++◌, codes}
use Rattle.calendar.specs.Digits.{is_digit}
use Rattle.grammar.specs.Bytes.{white, plain, lead, trail, capital}
use Rattle.grammar.specs.declared.states.Segment.{Segment}
use Rattle.grammar.specs.declared.states.Segment.TheVariants.{Header, Visit, Order}
use Rattle.grammar.specs.declared.states.State.{State}
use Rattle.grammar.specs.declared.states.State.TheVariants.{Start, Records, Record, Within, Headed, Body, Orders, Bodied, Done}
use Rattle.grammar.specs.declared.states.Element.{Element}
use Rattle.grammar.specs.declared.states.Element.TheVariants.{Recs, Rec, Msh, Mb, Mb1, Mb2}
use Rattle.grammar.specs.declared.states.Tag.{Tag}
use Rattle.grammar.specs.declared.states.Tag.TheVariants.{Open, Close}
use Rattle.grammar.specs.declared.states.FieldId.{FieldId}

abbrev pub declaration : List ℕ
declaration = codes "<?xml version=\"1.0\" encoding=\"Big5\"?>"

pub data Value : List ℕ → Type 0 where
  empty : Value []
  one : {b : ℕ} {v : List ℕ} → plain b ≡ true → Value v → Value (b ∷ v)
  pair : {b c : ℕ} {v : List ℕ} → lead b ≡ true → trail c ≡ true → Value v → Value (b ∷ c ∷ v)

pub record Id (i : FieldId) : Type 0 where
  pub letter : capital i.letter ≡ true
  pub tens : is_digit i.tens ≡ true
  pub ones : is_digit i.ones ≡ true

abbrev pub letters : FieldId → List ℕ
letters i = i.letter ∷ i.tens ∷ i.ones ∷ []

abbrev pub opening : FieldId → List ℕ
opening i = codes "<" ++ (letters i ++ codes ">")

abbrev pub closing : FieldId → List ℕ
closing i = codes "</" ++ (letters i ++ codes ">")

abbrev pub name : Element → List ℕ
name Recs = codes "RECS"
name Rec = codes "REC"
name Msh = codes "MSH"
name Mb = codes "MB"
name Mb1 = codes "MB1"
name Mb2 = codes "MB2"

abbrev pub spelling : Tag → List ℕ
spelling (Open e) = codes "<" ++ (name e ++ codes ">")
spelling (Close e) = codes "</" ++ (name e ++ codes ">")

pub data Turn : State → Tag → State → Type 0 where
  opens_records : Turn Start (Open Recs) Records
  opens_record : Turn Records (Open Rec) Record
  opens_header : Turn Record (Open Msh) (Within Header)
  closes_header : Turn (Within Header) (Close Msh) Headed
  opens_body : Turn Headed (Open Mb) Body
  opens_visit : Turn Body (Open Mb1) (Within Visit)
  closes_visit : Turn (Within Visit) (Close Mb1) Orders
  opens_order : Turn Orders (Open Mb2) (Within Order)
  closes_order : Turn (Within Order) (Close Mb2) Orders
  closes_body : Turn Orders (Close Mb) Bodied
  closes_record : Turn Bodied (Close Rec) Records
  closes_records : Turn Records (Close Recs) Done

pub data Path : State → List ℕ → State → Type 0 where
  here : {s : State} → Path s [] s
  skips : {s n : State} {b : ℕ} {w : List ℕ} → white b ≡ true → Path s w n → Path s (b ∷ w) n
  turns : {s m n : State} {t : Tag} {w : List ℕ} → Turn s t m → Path m w n → Path s (spelling t ++ w) n
  holds : {g : Segment} {n : State} {i : FieldId} {v w : List ℕ} → Id i → Value v → Path (Within g) w n → Path (Within g) (opening i ++ (v ++ (closing i ++ w))) n

abbrev pub Rest : State → List ℕ → Type 0
Rest s w = Path s w Done

pub record Leads (u : List ℕ) (s : State) : Type 0 where
  pub rest : List ℕ
  pub declared : u ≡ declaration ++ rest
  pub path : Path Start rest s

abbrev pub Lawful : List ℕ → Type 0
Lawful bs = Leads bs Done

abbrev pub Begins : List ℕ → Type 0
Begins bs = (w : List ℕ) × Lawful (bs ++ w)
