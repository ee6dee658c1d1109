-- What a lawful upload holds, read off its path. Assumes nothing.
--     structure t at      a tag of the structure, its place
--     field i at v        a field: its ID, the place of its opening tag, its value
--     items at p          what the bytes of a path hold, of which the first stands at that place
--     items_of l          what a lawful upload holds
--     value_place at      where the value of a field begins whose opening tag stands at that place
use Rattle.std.specs.Prelude.{ℕ, ◌+◌, List, [], ◌∷◌, length}
use Rattle.grammar.specs.Grammar.{declaration, spelling, opening, closing, Path, here, skips, turns, holds, Lawful}
use Rattle.grammar.specs.declared.states.State.{State}
use Rattle.grammar.specs.declared.states.Tag.{Tag}
use Rattle.grammar.specs.declared.states.FieldId.{FieldId}

pub data Item : Type 0 where
  structure : Tag → ℕ → Item
  field : FieldId → ℕ → List ℕ → Item

abbrev pub value_place : ℕ → ℕ
value_place at = at + 5

abbrev pub items : {s n : State} {w : List ℕ} → ℕ → Path s w n → List Item
items at here = []
items at (skips h p) = items (at + 1) p
items at (turns {t = t} h p) = structure t at ∷ items (at + length (spelling t)) p
items at (holds {i = i} {v = v} d h p) = field i at v ∷ items (at + length (opening i) + length v + length (closing i)) p

abbrev pub items_of : {bs : List ℕ} → Lawful bs → List Item
items_of l = items (length declaration) l.path
