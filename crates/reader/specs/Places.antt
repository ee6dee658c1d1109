-- Tags of the structure at a place. Assumes nothing.
--     TagStands u at t        the tag t stands at the place
--     SomeTagStands u at      some tag of the structure does
--     OtherStands u at t      some tag of the structure does, and not t
--     Fitting u at s          if the state s wants <MSH> or <MB1>, no other tag of the structure stands at the place
--     Misplaced u at s r      the refusal r: one does
use Rattle.std.specs.Prelude.{◌≡◌, ℕ, ◌+◌, List, length}
use Rattle.grammar.specs.Grammar.{spelling}
use Rattle.grammar.specs.declared.states.Element.TheVariants.{Msh, Mb1}
use Rattle.grammar.specs.declared.states.State.{State}
use Rattle.grammar.specs.declared.states.State.TheVariants.{Record, Body}
use Rattle.grammar.specs.declared.states.Tag.{Tag}
use Rattle.grammar.specs.declared.states.Tag.TheVariants.{Open}
use Rattle.reader.specs.Spans.{Spans}
use Rattle.reader.specs.declared.faults.Refusal.{Refusal}
use Rattle.reader.specs.declared.faults.Refusal.TheVariants.{Length, Declaration, Unlawful, NoHeader, NoVisit, CutShort, Foreign, TooMany, Call, Row}

abbrev pub TagStands : List ℕ → ℕ → Tag → Type 0
TagStands u at t = Spans u at (spelling t) (at + length (spelling t))

abbrev pub SomeTagStands : List ℕ → ℕ → Type 0
SomeTagStands u at = (t : Tag) × TagStands u at t

abbrev pub OtherStands : List ℕ → ℕ → Tag → Type 0
OtherStands u at t = SomeTagStands u at × ¬ TagStands u at t

abbrev pub Fitting : List ℕ → ℕ → State → Type 0
Fitting u at s = (s ≡ Record → ¬ OtherStands u at (Open Msh)) × (s ≡ Body → ¬ OtherStands u at (Open Mb1))

abbrev pub Misplaced : List ℕ → ℕ → State → Refusal → Type 0
Misplaced u at s Length = ⊥
Misplaced u at s (Declaration k) = ⊥
Misplaced u at s (Unlawful c k) = ⊥
Misplaced u at s (NoHeader k) = (k ≡ at) × (s ≡ Record) × OtherStands u at (Open Msh)
Misplaced u at s (NoVisit k) = (k ≡ at) × (s ≡ Body) × OtherStands u at (Open Mb1)
Misplaced u at s (CutShort k) = ⊥
Misplaced u at s (Foreign k) = ⊥
Misplaced u at s (TooMany k) = ⊥
Misplaced u at s Call = ⊥
Misplaced u at s (Row k) = ⊥
