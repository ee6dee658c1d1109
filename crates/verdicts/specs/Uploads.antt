-- The faults and verdicts of all the records of an upload. Assumes nothing.
--     verdict_in s n x      the verdict of the record x, which has the number n: the lowest rule that it breaks, or none
--     faults_in s rs        the faults of the records rs, numbered from 1
--     verdicts_in s rs      their verdicts
--     accepted_in s rs      how many of them have none
--     InRecord s rs y       y is a fault of one of them
--     UploadLaw s rs        what the list faults_in s rs is, and the faults of each record:
--         each              of each record what FaultLaw says: its verdict is the lowest rule that it breaks, and none exactly if it breaks nothing
--         only, every       it has the faults of the records, and all of them
--         rises             where the records are well formed, each stands before those that follow it: so none is there twice
use Rattle.std.specs.Prelude.{◌≡◌, ℕ, ◌+◌, List, [], ◌∷◌, ◌++◌, length, Option, is_none, count_by}
use Rattle.std.specs.List.{All}
use Rattle.records.specs.Records.{Record}
use Rattle.records.specs.Orderly.{WellFormed}
use Rattle.faults.specs.Along.{along, In}
use Rattle.faults.specs.Order.{Rises}
use Rattle.faults.specs.Reports.{verdict_of}
use Rattle.faults.specs.declared.report.Fault.{Fault}
use Rattle.faults.specs.declared.rules.Rule.{Rule}
use Rattle.verdicts.specs.Sights.{Setting}
use Rattle.verdicts.specs.Faults.{faults_of}
use Rattle.verdicts.specs.Laws.{Listed, FaultLaw}

abbrev pub verdict_in : Setting → ℕ → Record → Option Rule
verdict_in s n x = verdict_of (faults_of s n x)

abbrev pub faults_in : Setting → List Record → List Fault
faults_in s rs = along (λ before x. faults_of s (1 + length before) x) [] rs

abbrev pub verdicts_in : Setting → List Record → List (Option Rule)
verdicts_in s rs = along (λ before x. verdict_in s (1 + length before) x ∷ []) [] rs

abbrev pub accepted_in : Setting → List Record → ℕ
accepted_in s rs = count_by is_none (verdicts_in s rs)

pub record InRecord (s : Setting) (rs : List Record) (y : Fault) : Type 0 where
  pub front : List Record
  pub at : Record
  pub back : List Record
  pub stands : rs ≡ front ++ (at ∷ back)
  pub listed : Listed s (1 + length front) at y

pub record UploadLaw (s : Setting) (rs : List Record) : Type 0 where
  pub each : (front : List Record) (x : Record) (back : List Record) → rs ≡ front ++ (x ∷ back) → FaultLaw s (1 + length front) x
  pub only : (y : Fault) → In y (faults_in s rs) → InRecord s rs y
  pub every : (y : Fault) → InRecord s rs y → In y (faults_in s rs)
  pub rises : (upload : List ℕ) → All (WellFormed upload) rs → Rises (faults_in s rs)
