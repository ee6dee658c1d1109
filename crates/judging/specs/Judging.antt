-- What judging an upload tells. Assumes nothing.
--     Tells s rs before c after     c counts the records rs, those of them that break no rule, and all faults; after are the rows before with the first faults in place of the first rows
--     TellsOf s u before c after    so it is for the records of the upload u, whatever way it is read, and the list of faults is what its law says
use Rattle.std.specs.Prelude.{◌≡◌, ℕ, List, length}
use Rattle.grammar.specs.Grammar.{Lawful}
use Rattle.grammar.specs.Items.{items_of}
use Rattle.records.specs.Records.{Record, records_of}
use Rattle.faults.specs.Order.{Rises}
use Rattle.faults.specs.Reports.{overwritten}
use Rattle.faults.specs.declared.report.Fault.{Fault}
use Rattle.verdicts.specs.Sights.{Setting}
use Rattle.verdicts.specs.Uploads.{faults_in, accepted_in, UploadLaw}
use Rattle.judging.specs.declared.upload.Counts.{Counts}

pub record Tells (s : Setting) (rs : List Record) (before : List Fault) (c : Counts) (after : List Fault) : Type 0 where
  pub rows : after ≡ overwritten before (faults_in s rs)
  pub records : c.records ≡ length rs
  pub accepted : c.accepted ≡ accepted_in s rs
  pub faults : c.faults ≡ length (faults_in s rs)

pub record TellsOf (s : Setting) (upload : List ℕ) (before : List Fault) (c : Counts) (after : List Fault) : Type 0 where
  pub tells : (l : Lawful upload) → Tells s (records_of (items_of l)) before c after
  pub law : (l : Lawful upload) → UploadLaw s (records_of (items_of l))
  pub rises : (l : Lawful upload) → Rises (faults_in s (records_of (items_of l)))
