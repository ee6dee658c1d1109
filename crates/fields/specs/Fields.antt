-- The fields of a record: their names, where each stands, and which one an ID names there. Assumes nothing.
--     row f            the place of a field among all 69: those of MSH, then those of MB1, then those of MB2
--     names            the names of all by their rows; name f is that of f
--     id_of f          its name, as an ID of the grammar
--     segment_of f     the segment in which it stands
--     fields_of g      the fields of a segment in their order
--     letter_of g      the letter with which their names begin
--     first_of g       the number of the first of them
--     numbered g n     the one with the number n, if there is one
--     number_in i      the number that an ID's two digits write, if they are digits
--     field_at g i     the field with the ID i, if it stands in the segment g
--     Naming           a field is what its ID names where it stands, and an ID names nothing else and nowhere else
--     Standing         there are 69 rows, each of one field; a field stands in its segment and in no other, and rows rise along a segment
use Rattle.std.specs.Prelude.{◌≡◌, ℕ, ◌-◌, ◌<◌, if◌then◌else◌, ◌==◌, List, [], ◌∷◌, ◌++◌, codes, slice_index, slice_index_or, Option, Some, None, nat_le, map}
use Rattle.std.specs.List.{slice_get}
use Rattle.std.specs.List.Sorted.{IsStrictlyIncreasing}
use Rattle.std.specs.Option.{option_and_then}
use Rattle.calendar.specs.Digits.{two_in}
use Rattle.grammar.specs.declared.states.FieldId.{FieldId}
use Rattle.grammar.specs.declared.states.Segment.{Segment}
use Rattle.grammar.specs.declared.states.Segment.TheVariants.{Header, Visit, Order}
use Rattle.fields.specs.declared.field.Field.{Field}
use Rattle.fields.specs.declared.field.Field.TheVariants.{H00, H01, M01, M02, M03, M04, M05, M06, M07, M08, M09, M10, M11, M12, M13, M14, M15, M16, M17, M18, M19, M20, M21, M22, M23, M24, M25, M26, M27, M28, M29, M30, M31, M32, M33, M34, M35, M36, M37, M38, M39, M40, M41, M42, M43, M44, M45, M46, M47, M48, M49, M50, M51, M52, D01, D02, D03, D04, D05, D06, D07, D08, D09, D10, D11, D12, D13, D14, D15}

abbrev pub row : Field → ℕ
row H00 = 0
row H01 = 1
row M01 = 2
row M02 = 3
row M03 = 4
row M04 = 5
row M05 = 6
row M06 = 7
row M07 = 8
row M08 = 9
row M09 = 10
row M10 = 11
row M11 = 12
row M12 = 13
row M13 = 14
row M14 = 15
row M15 = 16
row M16 = 17
row M17 = 18
row M18 = 19
row M19 = 20
row M20 = 21
row M21 = 22
row M22 = 23
row M23 = 24
row M24 = 25
row M25 = 26
row M26 = 27
row M27 = 28
row M28 = 29
row M29 = 30
row M30 = 31
row M31 = 32
row M32 = 33
row M33 = 34
row M34 = 35
row M35 = 36
row M36 = 37
row M37 = 38
row M38 = 39
row M39 = 40
row M40 = 41
row M41 = 42
row M42 = 43
row M43 = 44
row M44 = 45
row M45 = 46
row M46 = 47
row M47 = 48
row M48 = 49
row M49 = 50
row M50 = 51
row M51 = 52
row M52 = 53
row D01 = 54
row D02 = 55
row D03 = 56
row D04 = 57
row D05 = 58
row D06 = 59
row D07 = 60
row D08 = 61
row D09 = 62
row D10 = 63
row D11 = 64
row D12 = 65
row D13 = 66
row D14 = 67
row D15 = 68

abbrev pub names : List (List ℕ)
names =
    codes "H00" ∷ codes "H01" ∷ codes "M01" ∷ codes "M02" ∷ codes "M03" ∷ codes "M04" ∷ codes "M05" ∷ codes "M06" ∷ codes "M07" ∷ codes "M08"
    ∷ codes "M09" ∷ codes "M10" ∷ codes "M11" ∷ codes "M12" ∷ codes "M13" ∷ codes "M14" ∷ codes "M15" ∷ codes "M16" ∷ codes "M17" ∷ codes "M18"
    ∷ codes "M19" ∷ codes "M20" ∷ codes "M21" ∷ codes "M22" ∷ codes "M23" ∷ codes "M24" ∷ codes "M25" ∷ codes "M26" ∷ codes "M27" ∷ codes "M28"
    ∷ codes "M29" ∷ codes "M30" ∷ codes "M31" ∷ codes "M32" ∷ codes "M33" ∷ codes "M34" ∷ codes "M35" ∷ codes "M36" ∷ codes "M37" ∷ codes "M38"
    ∷ codes "M39" ∷ codes "M40" ∷ codes "M41" ∷ codes "M42" ∷ codes "M43" ∷ codes "M44" ∷ codes "M45" ∷ codes "M46" ∷ codes "M47" ∷ codes "M48"
    ∷ codes "M49" ∷ codes "M50" ∷ codes "M51" ∷ codes "M52" ∷ codes "D01" ∷ codes "D02" ∷ codes "D03" ∷ codes "D04" ∷ codes "D05" ∷ codes "D06"
    ∷ codes "D07" ∷ codes "D08" ∷ codes "D09" ∷ codes "D10" ∷ codes "D11" ∷ codes "D12" ∷ codes "D13" ∷ codes "D14" ∷ codes "D15" ∷ []

abbrev pub name : Field → List ℕ
name f = slice_index_or names (row f) []

abbrev pub id_of : Field → FieldId
id_of f = record { letter = slice_index (name f) 0; tens = slice_index (name f) 1; ones = slice_index (name f) 2 }

abbrev pub segment_of : Field → Segment
segment_of H00 = Header
segment_of H01 = Header
segment_of D01 = Order
segment_of D02 = Order
segment_of D03 = Order
segment_of D04 = Order
segment_of D05 = Order
segment_of D06 = Order
segment_of D07 = Order
segment_of D08 = Order
segment_of D09 = Order
segment_of D10 = Order
segment_of D11 = Order
segment_of D12 = Order
segment_of D13 = Order
segment_of D14 = Order
segment_of D15 = Order
segment_of _ = Visit

abbrev pub fields_of : Segment → List Field
fields_of Header = H00 ∷ H01 ∷ []
fields_of Visit =
    M01 ∷ M02 ∷ M03 ∷ M04 ∷ M05 ∷ M06 ∷ M07 ∷ M08 ∷ M09 ∷ M10 ∷ M11 ∷ M12 ∷ M13 ∷ M14 ∷ M15
    ∷ M16 ∷ M17 ∷ M18 ∷ M19 ∷ M20 ∷ M21 ∷ M22 ∷ M23 ∷ M24 ∷ M25 ∷ M26 ∷ M27 ∷ M28 ∷ M29 ∷ M30
    ∷ M31 ∷ M32 ∷ M33 ∷ M34 ∷ M35 ∷ M36 ∷ M37 ∷ M38 ∷ M39 ∷ M40 ∷ M41 ∷ M42 ∷ M43 ∷ M44 ∷ M45
    ∷ M46 ∷ M47 ∷ M48 ∷ M49 ∷ M50 ∷ M51 ∷ M52 ∷ []
fields_of Order = D01 ∷ D02 ∷ D03 ∷ D04 ∷ D05 ∷ D06 ∷ D07 ∷ D08 ∷ D09 ∷ D10 ∷ D11 ∷ D12 ∷ D13 ∷ D14 ∷ D15 ∷ []

-- H, M and D
abbrev pub letter_of : Segment → ℕ
letter_of Header = 72
letter_of Visit = 77
letter_of Order = 68

abbrev pub first_of : Segment → ℕ
first_of Header = 0
first_of _ = 1

abbrev pub numbered : Segment → ℕ → Option Field
numbered g n = if nat_le (first_of g) n then slice_get (fields_of g) (n - first_of g) else None

abbrev pub number_in : FieldId → Option ℕ
number_in i = two_in (i.tens ∷ i.ones ∷ [])

abbrev pub field_at : Segment → FieldId → Option Field
field_at g i = if i.letter == letter_of g then option_and_then (numbered g) (number_in i) else None

pub record Naming : Type 0 where
  pub named : (f : Field) → field_at (segment_of f) (id_of f) ≡ Some f
  pub only : (g : Segment) (i : FieldId) (f : Field) → field_at g i ≡ Some f → (i ≡ id_of f) × (g ≡ segment_of f)

pub record Standing : Type 0 where
  pub small : (f : Field) → row f < 69
  pub apart : (f h : Field) → row f ≡ row h → f ≡ h
  pub stands : (f : Field) → (front : List Field) × (back : List Field) × (fields_of (segment_of f) ≡ front ++ (f ∷ back))
  pub alone : (g : Segment) (front : List Field) (f : Field) (back : List Field) → fields_of g ≡ front ++ (f ∷ back) → segment_of f ≡ g
  pub rise : (g : Segment) → IsStrictlyIncreasing (map row (fields_of g))
