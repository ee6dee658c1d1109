-- What holds of the grammar itself. Assumes nothing.
use Rattle.std.specs.Prelude.{◌≡◌, ℕ, true, ◌↔◌, List, ◌++◌}
use Rattle.grammar.specs.Grammar.{Rest, Leads, Lawful}
use Rattle.grammar.specs.Threads.{is_lawful_from, is_lawful}
use Rattle.grammar.specs.declared.states.State.{State}

-- behind bytes that lead to a state, a lawful upload goes on as from that state
abbrev pub GoesOn : Type 0
GoesOn = (u : List ℕ) (s : State) → Leads u s → (w : List ℕ) → Lawful (u ++ w) ↔ Rest s w

-- bytes lead to one state at most
abbrev pub OneState : Type 0
OneState = (u : List ℕ) (s n : State) → Leads u s → Leads u n → s ≡ n

-- every state has an ending
abbrev pub EachEnds : Type 0
EachEnds = (s : State) → (w : List ℕ) × Rest s w

-- the tests tell the grammar
abbrev pub TestIsExact : Type 0
TestIsExact = ((s : State) (w : List ℕ) → (is_lawful_from s w ≡ true) ↔ Rest s w) × ((bs : List ℕ) → (is_lawful bs ≡ true) ↔ Lawful bs)
