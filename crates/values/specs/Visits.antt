-- What single values of a visit may be, and two days one after the other. Assumes nothing.
--     precedes a b              a and b are days, and a is before b
--     is_child_of n k           n is a number of children born together, 1 to 5, and the one with the number k is among them
--     is_card_number bs         a visit number of the card: one to four digits, 1500 at most
--     is_prevention_number bs   a visit number of preventive care: IC and two characters
--     is_number_in c bs         a normal visit of the category c may have the visit number: one of the card in 01 to 09, one of preventive care in AC, none otherwise
--     signs_of f                how many characters of A to Z and 0 to 9 the field has, if it is a field of such
--     has_signs n bs            n of these characters
--     is_dispensing c           AE or AF
--     is_prevention c           AC
--     are_refills t bs          0, or digits that rise strictly, from 1 to t
use Rattle.std.specs.Prelude.{ℕ, ◌-◌, Bool, true, false, ◌&&◌, ◌||◌, ◌==◌, List, [], ◌∷◌, length, codes, Option, Some, None, nat_le, nat_lt}
use Rattle.std.specs.List.{list_all}
use Rattle.std.specs.Option.{option_map_or}
use Rattle.std.specs.Str.{bytes_eq}
use Rattle.calendar.specs.Calendar.{Date}
use Rattle.calendar.specs.Digits.{is_digit}
use Rattle.calendar.specs.Time.{is_before}
use Rattle.grammar.specs.Bytes.{is_sign, plain}
use Rattle.fields.specs.declared.field.Field.{Field}
use Rattle.fields.specs.declared.field.Field.TheVariants.{M15, M16, M17, M52}
use Rattle.fields.specs.declared.category.Category.{Category}
use Rattle.fields.specs.declared.category.Category.TheVariants.{C01, C02, C03, C04, C05, C06, C07, C08, C09, AC, AE, AF}
use Rattle.values.specs.Numbers.{short_number}

abbrev pub precedes : Option Date → Option Date → Bool
precedes (Some a) (Some b) = is_before a b
precedes _ _ = false

-- one of up to five children: how many, and which, by a letter
abbrev pub is_child_of : ℕ → ℕ → Bool
is_child_of children rank = (nat_le 1 children && nat_le children 5) && (nat_le 1 rank && nat_le rank children)

abbrev pub is_card_number : List ℕ → Bool
is_card_number bs = option_map_or (λ n. nat_le n 1500) (short_number bs) false

-- characters of a byte each: the field has no room for longer ones
abbrev pub is_prevention_number : List ℕ → Bool
is_prevention_number (a ∷ b ∷ c ∷ d ∷ []) = (a == 73 && b == 67) && (plain c && plain d)
is_prevention_number _ = false

abbrev pub is_number_in : Option Category → List ℕ → Bool
is_number_in (Some C01) bs = is_card_number bs
is_number_in (Some C02) bs = is_card_number bs
is_number_in (Some C03) bs = is_card_number bs
is_number_in (Some C04) bs = is_card_number bs
is_number_in (Some C05) bs = is_card_number bs
is_number_in (Some C06) bs = is_card_number bs
is_number_in (Some C07) bs = is_card_number bs
is_number_in (Some C08) bs = is_card_number bs
is_number_in (Some C09) bs = is_card_number bs
is_number_in (Some AC) bs = is_prevention_number bs
is_number_in _ bs = length bs == 0

abbrev pub has_signs : ℕ → List ℕ → Bool
has_signs n bs = length bs == n && list_all is_sign bs

abbrev pub signs_of : Field → Option ℕ
signs_of M15 = Some 20
signs_of M16 = Some 20
signs_of M17 = Some 10
signs_of M52 = Some 20
signs_of _ = None

abbrev pub is_dispensing : Option Category → Bool
is_dispensing (Some AE) = true
is_dispensing (Some AF) = true
is_dispensing _ = false

abbrev pub is_prevention : Option Category → Bool
is_prevention (Some AC) = true
is_prevention _ = false

-- digits that rise strictly from above last to times at most
abbrev pub rise_to : ℕ → ℕ → List ℕ → Bool
rise_to times last [] = true
rise_to times last (b ∷ bs) = (is_digit b && (nat_lt last (b - 48) && nat_le (b - 48) times)) && rise_to times (b - 48) bs

abbrev pub are_refills : ℕ → List ℕ → Bool
are_refills times bs = bytes_eq bs (codes "0") || rise_to times 0 bs
