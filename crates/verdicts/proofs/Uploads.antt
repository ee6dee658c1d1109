-- What the faults of all the records of an upload are. Assumes nothing.
use Rattle.std.proofs.Common.{ℕ, ◌+◌, inl, sym, subst, List, [], ◌∷◌, ◌++◌, length, length-append, arith}
use Rattle.std.specs.List.{All}
use Rattle.std.proofs.lemmas.List.Elements.{All-head, All-tail}
use Rattle.records.specs.Records.{Record}
use Rattle.records.specs.Orderly.{WellFormed}
use Rattle.faults.specs.Along.{along, In}
use Rattle.faults.specs.Order.{Before, Rises}
use Rattle.faults.specs.declared.report.Fault.{Fault}
use Rattle.faults.proofs.Along.{along_has, in_along}
use Rattle.faults.proofs.Order.{rises_append}
use Rattle.verdicts.specs.Sights.{Setting}
use Rattle.verdicts.specs.Faults.{faults_of}
use Rattle.verdicts.specs.Uploads.{faults_in, InRecord, UploadLaw}
use Rattle.verdicts.proofs.Laws.{fault_law}

module _ (s : Setting) where
  abbrev told_of : List Record → Record → List Fault
  told_of before x = faults_of s (1 + length before) x

  only : (rs : List Record) (y : Fault) → In y (faults_in s rs) → InRecord s rs y
  only rs y m =
      let f = in_along told_of [] rs y m in
      record { front = f.front; at = f.at; back = f.back; stands = f.stands; listed = (fault_law s (1 + length f.front) f.at).only y f.within }

  every : (rs : List Record) (y : Fault) → InRecord s rs y → In y (faults_in s rs)
  every rs y r =
      subst (λ xs. In y (faults_in s xs)) (sym r.stands)
      (along_has told_of [] r.front r.at r.back y ((fault_law s (1 + length r.front) r.at).every y r.listed))

  -- a record's faults have its number, and those of the records behind it have higher ones
  rise : (upload : List ℕ) (before rs : List Record) → All (WellFormed upload) rs → Rises (along told_of before rs)
  rise upload before [] h = tt
  rise upload before (x ∷ rs) h =
      let law = fault_law s (1 + length before) x in
      let behind = before ++ x ∷ [] in
      rises_append Before (told_of before x) (along told_of behind rs)
      (law.rises upload (All-head (WellFormed upload) x rs h))
      (rise upload behind rs (All-tail (WellFormed upload) x rs h))
      (λ y z i j.
      let f = in_along told_of behind rs z j in
      let later = (fault_law s (1 + length (behind ++ f.front)) f.at).numbered z f.within in
      inl (omega (arith, law.numbered y i, later, length-append behind f.front, length-append before (x ∷ []))))

pub upload_law : (s : Setting) (rs : List Record) → UploadLaw s rs
upload_law s rs = record { each = λ front x back e. fault_law s (1 + length front) x; only = only s rs; every = every s rs; rises = λ upload h. rise s upload [] rs h }
