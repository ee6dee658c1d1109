-- What is printed of the verdicts of an upload. Assumes nothing.
--     hex_byte n        a byte as two capital hexadecimal digits
--     number_of v       the number of the rule that the verdict v names, or 0
--     verdict_text v    that number
--     verdicts_text vs  V, a blank, the numbers of the verdicts vs, and a line feed
use Rattle.std.specs.Prelude.{ℕ, ◌/◌, ◌%◌, true, List, [], ◌∷◌, ◌++◌, Option, codes}
use Rattle.std.specs.Fmt.{digit_glyph}
use Rattle.std.specs.List.{flat_map}
use Rattle.std.specs.Option.{option_map_or}
use Rattle.faults.specs.Rules.{number_of as rule_number}
use Rattle.faults.specs.declared.rules.Rule.{Rule}

abbrev pub hex_byte : ℕ → List ℕ
hex_byte n = digit_glyph true (n / 16) ∷ digit_glyph true (n % 16) ∷ []

abbrev pub number_of : Option Rule → ℕ
number_of v = option_map_or rule_number v 0

abbrev pub verdict_text : Option Rule → List ℕ
verdict_text v = hex_byte (number_of v)

abbrev pub verdicts_text : List (Option Rule) → List ℕ
verdicts_text vs = codes "V " ++ (flat_map verdict_text vs ++ (10 ∷ []))
