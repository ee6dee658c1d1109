-- What a report holds. Assumes nothing.
--     blank rows            a report into the rows, of which nothing is told yet
--     begun r               r when the next record begins
--     told_one r f          r after the fault f was told
--     told r fs             r after the faults fs were told, one after the other
--     Told start fs r       from start to r the faults fs were told, one after the other and of however many records: the verdict aside
--     overwritten rows xs   the rows with xs in place of the first of them, as far as the rows reach
--     verdict_of fs         the rule of the first of the faults fs, if there is one
--     Holds rows fs r       r was lent the rows, and fs is all that was told
use Rattle.std.specs.Prelude.{◌≡◌, ◌+◌, ◌-◌, ◌^◌, List, [], ◌∷◌, ◌++◌, length, take, drop, Option, Some, None, min, slice_set}
use Rattle.std.specs.List.{fold}
use Rattle.std.specs.Borrow.{MutBor}
use Rattle.std.specs.Option.{option_or}
use Rattle.faults.specs.declared.report.Fault.{Fault}
use Rattle.faults.specs.declared.report.Report.{Report}
use Rattle.faults.specs.declared.rules.Rule.{Rule}

abbrev pub blank : MutBor (List Fault) → Report
blank rows = record { rows = rows; count = 0; verdict = None }

abbrev pub begun : Report → Report
begun r = record r { verdict = None }

abbrev pub told_one : Report → Fault → Report
told_one r f = record {
  rows = record r.rows { now = slice_set r.rows.now r.count f };
  count = min (r.count + 1) (2 ^ 64 - 1);
  verdict = option_or r.verdict (Some f.rule);
}

abbrev pub told : Report → List Fault → Report
told r fs = fold told_one r fs

pub record Told (start : Report) (fs : List Fault) (r : Report) : Type 0 where
  pub but_verdict : begun r ≡ begun (told start fs)

abbrev pub overwritten : {A : Type 0} → List A → List A → List A
overwritten rows xs = take (length rows) xs ++ drop (length xs) rows

abbrev pub verdict_of : List Fault → Option Rule
verdict_of [] = None
verdict_of (f ∷ fs) = Some f.rule

pub record Holds (rows : MutBor (List Fault)) (fs : List Fault) (r : Report) : Type 0 where
  pub lent : r.rows ≡ record rows { now = overwritten rows.now fs }
  pub count : r.count ≡ min (length fs) (2 ^ 64 - 1)
