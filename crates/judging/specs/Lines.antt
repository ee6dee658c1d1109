-- The lines that judge prints. Assumes nothing.
--     hex_digit n            a number below 16 as a capital hexadecimal digit
--     hex_byte n             a byte as two of them
--     short_text n           the last two bytes of a number
--     place_text n           the last four
--     counts_text c          the records, the accepted ones and the faults of an upload, and a line feed
--     refusal_text r         number and cause of a refusal, the last four bytes of its place, and a line feed
--     line_text r            the line of an answer
--     row_text f             record, segment, the three letters of the field, rule and place of a fault, and a line feed
use Rattle.std.specs.Prelude.{ℕ, ◌+◌, ◌/◌, ◌%◌, if◌then◌else◌, List, [], ◌∷◌, ◌++◌, nat_lt, Result, Ok, Err}
use Rattle.reader.specs.Refusals.{number_of, told_cause, told_place}
use Rattle.grammar.specs.declared.states.FieldId.{FieldId}
use Rattle.faults.specs.Rules.{number_of as rule_number}
use Rattle.faults.specs.declared.report.Fault.{Fault}
use Rattle.judging.specs.declared.upload.Counts.{Counts}
use Rattle.reader.specs.declared.faults.Refusal.{Refusal}

abbrev pub hex_digit : ℕ → ℕ
hex_digit n = if nat_lt n 10 then 48 + n else 55 + n

abbrev pub hex_byte : ℕ → List ℕ
hex_byte n = hex_digit (n / 16) ∷ hex_digit (n % 16) ∷ []

abbrev pub short_text : ℕ → List ℕ
short_text n = hex_byte (n / 0x100 % 256) ++ hex_byte (n % 256)

abbrev pub place_text : ℕ → List ℕ
place_text n = hex_byte (n / 0x1000000 % 256) ++ (hex_byte (n / 0x10000 % 256) ++ (hex_byte (n / 0x100 % 256) ++ hex_byte (n % 256)))

abbrev pub refusal_text : Refusal → List ℕ
refusal_text r = hex_byte (number_of r) ++ (hex_byte (told_cause r) ++ (place_text (told_place r) ++ (10 ∷ [])))

abbrev pub counts_text : Counts → List ℕ
counts_text c = short_text c.records ++ (short_text c.accepted ++ (place_text c.faults ++ (10 ∷ [])))

abbrev pub line_text : Result Counts Refusal → List ℕ
line_text (Ok c) = counts_text c
line_text (Err r) = refusal_text r

abbrev pub letters_text : FieldId → List ℕ
letters_text i = hex_byte i.letter ++ (hex_byte i.tens ++ hex_byte i.ones)

abbrev pub row_text : Fault → List ℕ
row_text f =
    short_text f.«record» ++ (short_text f.segment ++ (letters_text f.field ++ (hex_byte (rule_number f.rule) ++ (place_text f.place ++ (10 ∷ [])))))
