-- Sets of the IDs of fields. Assumes nothing.
--     is_id i        whether i is a capital letter and two digits
--     row i          how many IDs stand before the ID i, from A00 on
--     same_id i j    whether i and j are the same three bytes
--     has s i        whether the ID i is in the set s
use Rattle.std.specs.Prelude.{ℕ, ◌+◌, ◌-◌, ◌*◌, Bool, false, ◌&&◌, ◌==◌, slice_index_or}
use Rattle.calendar.specs.Digits.{is_digit}
use Rattle.grammar.specs.Bytes.{capital}
use Rattle.grammar.specs.declared.states.FieldId.{FieldId}
use Rattle.marks.specs.declared.ids.Ids.{Ids}

abbrev pub is_id : FieldId → Bool
is_id i = capital i.letter && (is_digit i.tens && is_digit i.ones)

abbrev pub row : FieldId → ℕ
row i = (i.letter - 65) * 100 + (i.tens - 48) * 10 + (i.ones - 48)

abbrev pub same_id : FieldId → FieldId → Bool
same_id i j = i.letter == j.letter && (i.tens == j.tens && i.ones == j.ones)

abbrev pub has : Ids → FieldId → Bool
has s i = is_id i && slice_index_or s.marks (row i) false
