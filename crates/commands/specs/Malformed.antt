-- Why a line is no command. Assumes nothing.
--     malformed_text m   the text of m
--     if_ok r f          f of what r is, if r is no error
use Rattle.std.specs.Prelude.{ℕ, List, codes, Result, Ok, Err}
use Rattle.commands.specs.declared.malformed.Malformed.{Malformed}
use Rattle.commands.specs.declared.malformed.Malformed.TheVariants.{Unknown, Words, Number}

abbrev pub malformed_text : Malformed → List ℕ
malformed_text Unknown = codes "unknown command"
malformed_text Words = codes "wrong number of words or blanks"
malformed_text Number = codes "no number"

abbrev pub if_ok : {X Y : Type 0} → Result X Malformed → (X → Result Y Malformed) → Result Y Malformed
if_ok (Ok x) f = f x
if_ok (Err e) f = Err e
