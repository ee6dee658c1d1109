-- The rules of the tables of needs, by one test over all their cells. Assumes nothing.
use Rattle.std.proofs.Common.{◌≡◌, ℕ, ◌<◌, Bool, true, false, ◌&&◌, ◌==◌, List, [], length, refl, arith}
use Rattle.std.proofs.lemmas.Bool.Decides.{nat_tests}
use Rattle.std.proofs.lemmas.Option.{slice_get-get_or}
use Rattle.std.specs.List.{list_any}
use Rattle.std.specs.Prelude.{if◌then◌else◌, nat_lt, slice_index_or}
use Rattle.fields.proofs.Naming.{row_small}
use Rattle.fields.proofs.Walk.{every, at_place}
use Rattle.fields.specs.Categories.{column_of}
use Rattle.fields.specs.Fields.{row}
use Rattle.fields.specs.Needs.{column_in, cell_at, is_mark, meaning, always, is_always, Table}
use Rattle.fields.specs.Printed.{printed}
use Rattle.fields.specs.declared.category.Category.{Category}
use Rattle.fields.specs.declared.category.Category.TheVariants.{C01, C02, C03, C04, C05, C06, C07, C08, C09, AJ, AA, AB, AC, AD, AE, AF, AG, AH, AI, BA, BB, BC, BD, BE, BF, CA, DA, DB, DC, AK, EA}
use Rattle.fields.specs.declared.field.Field.{Field}
use Rattle.fields.specs.declared.need.Need.TheVariants.{Required}

column_test : (k : Category) → nat_lt (column_of k) 31 ≡ true
column_test C01 = refl
column_test C02 = refl
column_test C03 = refl
column_test C04 = refl
column_test C05 = refl
column_test C06 = refl
column_test C07 = refl
column_test C08 = refl
column_test C09 = refl
column_test AJ = refl
column_test AA = refl
column_test AB = refl
column_test AC = refl
column_test AD = refl
column_test AE = refl
column_test AF = refl
column_test AG = refl
column_test AH = refl
column_test AI = refl
column_test BA = refl
column_test BB = refl
column_test BC = refl
column_test BD = refl
column_test BE = refl
column_test BF = refl
column_test CA = refl
column_test DA = refl
column_test DB = refl
column_test DC = refl
column_test AK = refl
column_test EA = refl

abbrev cell_test : ℕ → ℕ → ℕ → Bool
cell_test i j c = is_mark c && (if list_any (λ a. row a == i) always then c == 86 else true)

abbrev row_test : ℕ → List ℕ → Bool
row_test i cells = length cells == 62 && every (cell_test i) 0 cells

whole : every row_test 0 printed ≡ true
whole = refl

row_parts : (n : ℕ) (more : Bool) → (n == 62 && more) ≡ true → (n ≡ 62) × (more ≡ true)
row_parts n more h = (grind (arith, nat_tests), grind arith)

column_small : (k : Category) (e : Bool) → column_in k e < 62
column_small k true = grind (arith, nat_tests, column_test k)
column_small k false = grind (arith, nat_tests, column_test k)

row_at : (f : Field) → row_test (row f) (slice_index_or printed (row f) []) ≡ true
row_at f = at_place row_test 0 (row f) (row f) printed _ whole (slice_get-get_or printed (row f) [] (row_small f)) (omega arith)

cells_at : (f : Field) → length (slice_index_or printed (row f) []) ≡ 62
cells_at f = (row_parts _ _ (row_at f)).0

cell : (f : Field) (k : Category) (e : Bool) → cell_test (row f) (column_in k e) (cell_at f k e) ≡ true
cell f k e =
    let cells = slice_index_or printed (row f) [] in
    let inside : column_in k e < length cells = rw (cells_at f) (column_small k e) in
    at_place (cell_test (row f)) 0 (column_in k e) (column_in k e) cells _ (row_parts _ _ (row_at f)).1 (slice_get-get_or cells _ 0 inside) (omega arith)

marked : (b : Bool) (c : ℕ) → (is_mark c && (if b then c == 86 else true)) ≡ true → (is_mark c ≡ true) × (b ≡ true → meaning c ≡ Required)
marked b c h = (grind (arith, nat_tests), λ e. grind (arith, nat_tests))

pub table : Table
table = record {
  cells = cells_at;
  marks = λ f k e. (marked (is_always f) (cell_at f k e) (cell f k e)).0;
  needed = λ f k e. (marked (is_always f) (cell_at f k e) (cell f k e)).1;
}
