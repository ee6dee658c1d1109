-- Calls with their replies, and what was accepted in them. Assumes nothing.
--     Call                  what a call hands over: sender, receipt day and upload in bytes, how many verdict rows and report rows are lent, and what the code lists say
--     Reply                 its answer, and what was written into the rows: a verdict for each record, and the first faults. Nothing, if the upload went back
--     Event                 a call and its reply
--     History               events, one after the other: `begin` are none, and `followed h e` is h with e after it
--     accepted_one k x v    what the record x of the sender k files, if its verdict v is none
--     accepted_among k xs vs
--                           so it is with records and their verdicts
--     accepted_in e         what the accepted records of the event file, in their order
--     accepted h            and those of all events
--     own k h               the replies to the calls of the sender k
use Rattle.std.specs.Prelude.{ℕ, List, [], ◌∷◌, ◌++◌, Option, Some, None, Result, if◌then◌else◌}
use Rattle.std.specs.Str.{bytes_eq}
use Rattle.reader.specs.declared.faults.Refusal.{Refusal}
use Rattle.lists.specs.Lists.{Meaning}
use Rattle.records.specs.Records.{Record}
use Rattle.faults.specs.declared.report.Fault.{Fault}
use Rattle.faults.specs.declared.rules.Rule.{Rule}
use Rattle.filings.specs.declared.filing.Filing.{Filing}
use Rattle.judging.specs.declared.upload.Counts.{Counts}
use Rattle.receiving.specs.Contents.{records_in, filing_of, option_list}

pub record Call : Type 0 where
  pub sender : List ℕ
  pub day : List ℕ
  pub upload : List ℕ
  pub verdict_rows : ℕ
  pub report_rows : ℕ
  pub listed : Meaning

pub record Reply : Type 0 where
  pub answer : Result Counts Refusal
  pub verdicts : List (Option Rule)
  pub faults : List Fault

pub record Event : Type 0 where
  pub call : Call
  pub reply : Reply

pub data History : Type 0 where
  begin : History
  followed : History → Event → History

abbrev pub accepted_one : List ℕ → Record → Option Rule → List Filing
accepted_one k x None = option_list (filing_of k x)
accepted_one k x (Some r) = []

abbrev pub accepted_among : List ℕ → List Record → List (Option Rule) → List Filing
accepted_among k (x ∷ xs) (v ∷ vs) = accepted_one k x v ++ accepted_among k xs vs
accepted_among k _ _ = []

abbrev pub accepted_in : Event → List Filing
accepted_in e = accepted_among e.call.sender (records_in e.call.upload) e.reply.verdicts

abbrev pub accepted : History → List Filing
accepted begin = []
accepted (followed h e) = accepted h ++ accepted_in e

abbrev pub own : List ℕ → History → List Reply
own k begin = []
own k (followed h e) = own k h ++ (if bytes_eq e.call.sender k then e.reply ∷ [] else [])
