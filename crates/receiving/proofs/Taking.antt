-- What an upload that is taken is, and what its call. Assumes nothing.
use Rattle.std.proofs.Common.{◌≡◌, ◌≤◌, Bool, true, false, ◌&&◌, if◌then◌else◌, Option, Some, None, Ok, refl, arith}
use Rattle.std.proofs.lemmas.Bool.{and_parts}
use Rattle.std.proofs.lemmas.Bool.Decides.{nat_tests}
use Rattle.std.proofs.lemmas.Option.{none-some}
use Rattle.std.specs.Prelude.{nat_le}
use Rattle.calendar.specs.Calendar.{Date}
use Rattle.calendar.specs.Written.{date_in}
use Rattle.register.specs.Keys.{are_signs}
use Rattle.uploads.specs.Calls.{Told, right_day, is_sender, least_rows}
use Rattle.uploads.specs.Answers.{Taken, Sound, Within, Answer, taken}

chosen : (b : Bool) (o : Option Date) (d : Date) → (if b then o else None) ≡ Some d → b ≡ true
chosen true o d h = refl
chosen false o d h = absurd (none-some d h)

-- a right call has a right sender and rows enough
parts : (c : Told) (d : Date) → right_day c ≡ Some d → (is_sender c.sender ≡ true) × (nat_le least_rows c.rows ≡ true)
parts c d h = and_parts (is_sender c.sender) (nat_le least_rows c.rows) (chosen _ (date_in c.day) d h)

pub sender : (c : Told) (d : Date) → right_day c ≡ Some d → are_signs 10 c.sender ≡ true
sender c d h = (parts c d h).0

pub enough : (c : Told) (d : Date) → right_day c ≡ Some d → 4096 ≤ c.rows
enough c d h = let t = (parts c d h).1 in grind (arith, nat_tests)

-- and what is taken is what was handed over
module _ (c : Told) where
  pub sound : (t : Taken) → Answer c (Ok t) → Sound c t.day
  sound _ (taken s w f n) = s

  pub limits : (t : Taken) → Answer c (Ok t) → Within c.upload
  limits _ (taken s w f n) = w

  pub same_upload : (t : Taken) → Answer c (Ok t) → (t.upload ≡ c.upload) × (t.sender ≡ c.sender)
  same_upload _ (taken s w f n) = (refl, refl)
