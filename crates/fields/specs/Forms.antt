-- How the value of each field is written. Assumes nothing.
--     form_of f       the form of a field
--     is_number n v   v is 1 to n digits
--     is_amount n v   v is a number, perhaps behind a minus, of n bytes at the most with the minus
--     is_quantity v   v is a number of 1 to 5 digits, perhaps before a point and one more digit
--     fits m v        v has the form m: Text n is 1 to n bytes of any kind, Digits n is 1 to n digits, Day a real date, Moment a real
--                     date and time
use Rattle.std.specs.Prelude.{ℕ, ◌-◌, Bool, false, if◌then◌else◌, ◌&&◌, ◌==◌, List, [], ◌∷◌, length, nat_le, slice_index, take}
use Rattle.std.specs.Option.{is_some}
use Rattle.calendar.specs.Clock.{stamp_in}
use Rattle.calendar.specs.Digits.{is_digit, all_digits}
use Rattle.calendar.specs.Written.{date_in}
use Rattle.grammar.specs.Bytes.{within}
use Rattle.fields.specs.declared.field.Field.{Field}
use Rattle.fields.specs.declared.field.Field.TheVariants.{H00, H01, M01, M02, M03, M04, M05, M06, M07, M08, M09, M10, M11, M12, M13, M14, M15, M16, M17, M18, M19, M20, M21, M22, M23, M24, M25, M26, M27, M28, M29, M30, M31, M32, M33, M34, M35, M36, M37, M38, M39, M40, M41, M42, M43, M44, M45, M46, M47, M48, M49, M50, M51, M52, D01, D02, D03, D04, D05, D06, D07, D08, D09, D10, D11, D12, D13, D14, D15}
use Rattle.fields.specs.declared.form.Form.{Form}
use Rattle.fields.specs.declared.form.Form.TheVariants.{Text, Digits, Day, Moment, Amount, Quantity}

abbrev pub form_of : Field → Form
form_of H00 = Text 1
form_of H01 = Text 1
form_of M01 = Text 12
form_of M02 = Text 12
form_of M03 = Text 10
form_of M04 = Day
form_of M05 = Text 10
form_of M06 = Text 10
form_of M07 = Text 2
form_of M08 = Day
form_of M09 = Digits 1
form_of M10 = Text 1
form_of M11 = Moment
form_of M12 = Text 1
form_of M13 = Text 4
form_of M14 = Text 256
form_of M15 = Text 20
form_of M16 = Text 20
form_of M17 = Text 10
form_of M18 = Text 4
form_of M19 = Moment
form_of M20 = Digits 2
form_of M21 = Digits 2
form_of M22 = Digits 2
form_of M23 = Text 1
form_of M24 = Digits 1
form_of M25 = Digits 1
form_of M26 = Digits 1
form_of M27 = Digits 1
form_of M28 = Digits 1
form_of M29 = Digits 1
form_of M30 = Digits 1
form_of M31 = Digits 1
form_of M32 = Digits 1
form_of M33 = Digits 4
form_of M34 = Digits 4
form_of M35 = Text 9
form_of M36 = Text 9
form_of M37 = Text 9
form_of M38 = Text 9
form_of M39 = Text 9
form_of M40 = Text 9
form_of M41 = Text 9
form_of M42 = Text 9
form_of M43 = Text 9
form_of M44 = Amount 8
form_of M45 = Amount 8
form_of M46 = Amount 8
form_of M47 = Amount 7
form_of M48 = Amount 7
form_of M49 = Moment
form_of M50 = Text 10
form_of M51 = Text 2
form_of M52 = Text 20
form_of D01 = Moment
form_of D02 = Text 1
form_of D03 = Digits 3
form_of D04 = Text 1
form_of D05 = Text 1
form_of D06 = Text 12
form_of D07 = Text 6
form_of D08 = Text 18
form_of D09 = Digits 2
form_of D10 = Quantity
form_of D11 = Text 40
form_of D12 = Text 10
form_of D13 = Text 20
form_of D14 = Text 4
form_of D15 = Text 100

abbrev pub is_number : ℕ → List ℕ → Bool
is_number n v = within 1 n (length v) && all_digits v

abbrev pub is_amount : ℕ → List ℕ → Bool
is_amount n [] = false
is_amount n (b ∷ v) = if b == 45 then is_number (n - 1) v else is_number n (b ∷ v)

abbrev pub is_quantity : List ℕ → Bool
is_quantity v =
    if nat_le 2 (length v) && slice_index v (length v - 2) == 46
    then is_number 5 (take (length v - 2) v) && is_digit (slice_index v (length v - 1))
    else is_number 5 v

abbrev pub fits : Form → List ℕ → Bool
fits (Text n) v = within 1 n (length v)
fits (Digits n) v = is_number n v
fits Day v = is_some (date_in v)
fits Moment v = is_some (stamp_in v)
fits (Amount n) v = is_amount n v
fits Quantity v = is_quantity v
