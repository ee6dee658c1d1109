-- Samples of the rules, which hold together. Assumes nothing.
--     Takes v rs          v is a visit of which M26 is 3 and M33 is rs
--     RefillSamples       of times 3, the refills 13 keep rule 29, and 21 and 124 break it
--     Samples             that all of them hold:
--         due             the due days of five visits as they are written, one of them on no day
--         refills         those of refills
--         needs           M50 is required in category 04 under A, and M44 is barred in 05
--         declaration     an upload with a space before the ?> of its declaration goes back with refusal 2 at place 35
use Rattle.std.specs.Prelude.{◌≡◌, ℕ, true, false, List, codes}
use Rattle.calendar.specs.Due.{Samples as DueSamples}
use Rattle.fields.specs.Needs.{Samples as NeedSamples}
use Rattle.fields.specs.declared.field.Field.TheVariants.{M26, M33}
use Rattle.faults.specs.declared.rules.Rule.TheVariants.{Refills}
use Rattle.rules.specs.Rules.{broken}
use Rattle.rules.specs.Views.{View, is_visit}
use Rattle.uploads.specs.Answers.{SpaceInDeclaration}

pub record Takes (v : View) (refills : List ℕ) : Type 0 where
  pub visit : is_visit v ≡ true
  pub times : v.value M26 ≡ codes "3"
  pub refills_are : v.value M33 ≡ refills

pub record RefillSamples : Type 0 where
  pub rising : (v : View) → Takes v (codes "13") → broken Refills v M33 ≡ false
  pub falling : (v : View) → Takes v (codes "21") → broken Refills v M33 ≡ true
  pub beyond : (v : View) → Takes v (codes "124") → broken Refills v M33 ≡ true

pub record Samples : Type 0 where
  pub due : DueSamples
  pub refills : RefillSamples
  pub needs : NeedSamples
  pub declaration : SpaceInDeclaration
