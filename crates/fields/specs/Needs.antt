-- What a record needs of a field. Assumes nothing.
--     column_in k e   the column of the category k, under H01 = B if e and else under A
--     cell_at f k e   the printed cell of a field
--     is_mark c       the cell is one of those that the tables have
--     meaning c       what a cell asks for
--     need_at f k e   whether a record of the category k must have the field f, must not, or may, under H01 = B if e and else under A
--     always          the fields that every record must have, whatever it is
--     is_always f     f is one of them
--     Table           what holds of the tables at each field, category and kind
--     Samples         needs as they are printed
use Rattle.std.specs.Prelude.{◌≡◌, ℕ, ◌+◌, ◌*◌, Bool, true, false, IsTrue, if◌then◌else◌, ◌||◌, ◌==◌, List, [], ◌∷◌, length, slice_index, slice_index_or}
use Rattle.std.specs.List.{list_any}
use Rattle.fields.specs.Categories.{column_of}
use Rattle.fields.specs.Fields.{row}
use Rattle.fields.specs.Printed.{printed}
use Rattle.fields.specs.declared.category.Category.{Category}
use Rattle.fields.specs.declared.category.Category.TheVariants.{C04, C05}
use Rattle.fields.specs.declared.field.Field.{Field}
use Rattle.fields.specs.declared.field.Field.TheVariants.{H00, H01, M03, M04, M05, M07, M11, M12, M15, M44, M50}
use Rattle.fields.specs.declared.need.Need.{Need}
use Rattle.fields.specs.declared.need.Need.TheVariants.{Required, Barred, Free}

abbrev pub column_in : Category → Bool → ℕ
column_in k e = 2 * column_of k + (if e then 1 else 0)

abbrev pub cell_at : Field → Category → Bool → ℕ
cell_at f k e = slice_index (slice_index_or printed (row f) []) (column_in k e)

-- V, ~ and *
abbrev pub is_mark : ℕ → Bool
is_mark c = c == 86 || (c == 126 || c == 42)

abbrev pub meaning : ℕ → Need
meaning c = if c == 86 then Required else (if c == 126 then Barred else Free)

abbrev pub need_at : Field → Category → Bool → Need
need_at f k e = meaning (cell_at f k e)

abbrev pub always : List Field
always = H00 ∷ H01 ∷ M03 ∷ M04 ∷ M05 ∷ M07 ∷ M11 ∷ M12 ∷ M15 ∷ []

abbrev pub is_always : Field → Bool
is_always f = list_any (λ a. row a == row f) always

pub record Table : Type 0 where
  pub cells : (f : Field) → length (slice_index_or printed (row f) []) ≡ 62
  pub marks : (f : Field) (k : Category) (e : Bool) → IsTrue (is_mark (cell_at f k e))
  pub needed : (f : Field) (k : Category) (e : Bool) → IsTrue (is_always f) → need_at f k e ≡ Required

pub record Samples : Type 0 where
  pub required : need_at M50 C04 false ≡ Required
  pub barred : need_at M44 C05 false ≡ Barred
  pub barred_too : need_at M44 C05 true ≡ Barred
