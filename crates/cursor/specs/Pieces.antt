-- What one step of a cursor gives. Assumes nothing.
--     item piece                       a piece without its loan
--     Gives upload is found to n       found comes first of the items is, and the bytes from the place to hold the others, in the state n; or there is none
--     Steps upload at s found to n     so it is for the items of the bytes from the place at, in the state s, in whatever way they are read
--     Comes upload at s found to n     so it is for an item, behind which the upload is lawful
--     value_end upload place           where the value of a field ends whose opening tag stands at the place
--     field_at upload place            that field
--     Meets upload at s place w        what comes next stands at the place, and is of the kind w
use Rattle.std.specs.Prelude.{◌≡◌, ℕ, ◌+◌, ◌≤◌, true, List, [], ◌∷◌, length, drop, slice_index, slice_range, Some, None, Option}
use Rattle.std.specs.Option.{option_map}
use Rattle.grammar.specs.Grammar.{Rest, spelling}
use Rattle.grammar.specs.Tags.{behind}
use Rattle.grammar.specs.Threads.{is_lawful_from}
use Rattle.grammar.specs.Items.{Item, structure, field, items}
use Rattle.grammar.specs.declared.states.State.{State}
use Rattle.grammar.specs.declared.states.Wanted.{Wanted}
use Rattle.grammar.specs.declared.states.Wanted.TheVariants.{Structure, Field, Nothing}
use Rattle.cursor.specs.Scan.{value_len}
use Rattle.cursor.specs.declared.cursor.Piece.{Piece}
use Rattle.cursor.specs.declared.cursor.Piece.TheVariants.{Structure as StructurePiece, Field as FieldPiece}

abbrev pub item : Piece → Item
item (StructurePiece t at) = structure t at
item (FieldPiece i at v) = field i at v.now

abbrev pub Gives : List ℕ → List Item → Option Item → ℕ → State → Type 0
Gives upload is None to n = is ≡ []
Gives upload is (Some found) to n = (q : Rest n (drop to upload)) × (is ≡ found ∷ items to q)

pub record Steps (upload : List ℕ) (at : ℕ) (s : State) (found : Option Piece) (to : ℕ) (n : State) : Type 0 where
  pub told : (p : Rest s (drop at upload)) → Gives upload (items at p) (option_map item found) to n

pub record Comes (upload : List ℕ) (at : ℕ) (s : State) (found : Item) (to : ℕ) (n : State) : Type 0 where
  pub within : to ≤ length upload
  pub rest : is_lawful_from n (drop to upload) ≡ true
  pub told : (p : Rest s (drop at upload)) → Gives upload (items at p) (Some found) to n

abbrev pub value_end : List ℕ → ℕ → ℕ
value_end upload place = place + 5 + value_len (drop (place + 5) upload)

abbrev pub field_at : List ℕ → ℕ → Item
field_at upload place =
    field (record { letter = slice_index upload (place + 1); tens = slice_index upload (place + 2); ones = slice_index upload (place + 3) })
    place
    (slice_range upload (place + 5) (value_end upload place))

abbrev pub Meets : List ℕ → ℕ → State → ℕ → Wanted → Type 0
Meets upload at s place (Structure t) = Comes upload at s (structure t place) (place + length (spelling t)) (behind t)
Meets upload at s place (Field g) = Comes upload at s (field_at upload place) (value_end upload place + 6) s
Meets upload at s place Nothing = (p : Rest s (drop at upload)) → items at p ≡ []
