-- What is printed of a look-up. Assumes nothing.
--     text bs           the bytes bs as they are printed
--     origin_text o     the origin o: sender, colon, identifier; or a dash
--     numbers           the numbers of refills
--     refill_text rs n  the digit of the refill n, if it is in rs
--     refills_text rs   the digits of the refills rs; or a dash
--     flag_text b       1 or 0
--     visit_text e      patient, birth day, category and visit moment, with blanks between them
--     dispensing_text e origin, times, refills, and whether it is cancelled, so too
--     look_up_text o    the entry o, or none, and a line feed
use Rattle.std.specs.Prelude.{ℕ, Bool, if◌then◌else◌, List, [], ◌∷◌, ◌++◌, map, Option, Some, None, codes, decimal}
use Rattle.std.specs.List.{list_any, flat_map}
use Rattle.register.specs.Refills.{has_refill}
use Rattle.register.specs.declared.entry.Entry.{Entry}
use Rattle.register.specs.declared.key.Key.{Key}
use Rattle.register.specs.declared.refills.Refills.{Refills}
use Rattle.commands.specs.Texts.{shown, without_zeros}

abbrev pub text : List ℕ → List ℕ
text = map shown

abbrev pub origin_text : Option Key → List ℕ
origin_text (Some k) = text k.sender ++ (codes ":" ++ text k.identifier)
origin_text None = codes "-"

abbrev pub numbers : List ℕ
numbers = 1 ∷ 2 ∷ 3 ∷ 4 ∷ 5 ∷ 6 ∷ 7 ∷ 8 ∷ 9 ∷ []

abbrev pub refill_text : Refills → ℕ → List ℕ
refill_text rs n = if has_refill rs n then decimal n else []

abbrev pub refills_text : Refills → List ℕ
refills_text rs = if list_any (has_refill rs) numbers then flat_map (refill_text rs) numbers else codes "-"

abbrev pub flag_text : Bool → List ℕ
flag_text b = if b then codes "1" else codes "0"

abbrev pub visit_text : Entry → List ℕ
visit_text e =
    text (without_zeros e.patient) ++ (codes " " ++ (text e.birth ++ (codes " " ++ (text e.category ++ (codes " " ++ text e.visit)))))

abbrev pub dispensing_text : Entry → List ℕ
dispensing_text e =
    origin_text e.origin ++ (codes " " ++ (decimal e.times ++ (codes " " ++ (refills_text e.refills ++ (codes " " ++ flag_text e.cancelled)))))

abbrev pub look_up_text : Option Entry → List ℕ
look_up_text (Some e) = (visit_text e ++ (codes " " ++ dispensing_text e)) ++ (10 ∷ [])
look_up_text None = codes "none" ++ (10 ∷ [])
