-- What a call is answered, and what the register holds afterwards. Assumes nothing.
--     told_of c             the call without its code lists and report rows
--     setting_on d c        the day d and the call's code lists
--     counts_of vs fs       what is counted of the verdicts vs and the faults fs
--     refused_reply r       the reply to an upload that goes back
--     taken_reply s c vs    the reply to one that is taken, whose records have the verdicts vs
--     AllJudged s k xs c vs fs n d vs′ fs′
--                           the records xs of the sender k are judged: n are the counts, the register c becomes d, and the first of the rows vs and fs take verdicts and faults
--     Received c e d        in the register c the call of e has the reply of e, and the register becomes d: an upload goes back, and the register stays; or its records are judged, one after the other
--     Exact c e d           so it is, and no other reply and register are right
--     reply_in r vs fs      the reply, where r is the answer and vs and fs are the rows afterwards
--     event_in m s d u vs fs r
--                           the event of such a call and reply, with code lists of the meaning m
--     event_of m d vs fs r  that of the delivery d
use Rattle.std.specs.Prelude.{◌≡◌, ℕ, List, [], length, take, Option, is_none, count_by, Result, Ok, Err}
use Rattle.calendar.specs.Calendar.{Date}
use Rattle.reader.specs.declared.faults.Refusal.{Refusal}
use Rattle.uploads.specs.Calls.{Told}
use Rattle.uploads.specs.Answers.{Taken, Answered}
use Rattle.lists.specs.Lists.{Meaning}
use Rattle.records.specs.Records.{Record}
use Rattle.faults.specs.Reports.{overwritten}
use Rattle.faults.specs.declared.report.Fault.{Fault}
use Rattle.faults.specs.declared.rules.Rule.{Rule}
use Rattle.register.specs.Contents.{Contents}
use Rattle.verdicts.specs.Sights.{Setting}
use Rattle.judging.specs.declared.upload.Counts.{Counts}
use Rattle.receiving.specs.Contents.{records_in}
use Rattle.receiving.specs.Judging.{Run, faults_along}
use Rattle.receiving.specs.Events.{Call, Reply, Event}
use Rattle.receiving.specs.declared.receive.Delivery.{Delivery}

abbrev pub told_of : Call → Told
told_of c = record { sender = c.sender; day = c.day; upload = c.upload; rows = c.verdict_rows }

abbrev pub setting_on : Date → Call → Setting
setting_on d c = record { today = d; listed = c.listed }

abbrev pub counts_of : List (Option Rule) → List Fault → Counts
counts_of vs fs = record { records = length vs; accepted = count_by is_none vs; faults = length fs }

abbrev pub refused_reply : Refusal → Reply
refused_reply r = record { answer = Err r; verdicts = []; faults = [] }

abbrev pub taken_reply : Setting → Call → List (Option Rule) → Reply
taken_reply s c vs = with_faults (faults_along s 1 (records_in c.upload) vs)
  where
    with_faults : List Fault → Reply
    with_faults fs = record { answer = Ok (counts_of vs fs); verdicts = vs; faults = take c.report_rows fs }

pub data Received (c : Contents) (e : Event) : Contents → Type 0 where
  goes_back : {r : Refusal} → Answered (told_of e.call) (Err r) → e.reply ≡ refused_reply r → Received c e c
  taken : {t : Taken} {vs : List (Option Rule)} {d : Contents} → Answered (told_of e.call) (Ok t)
      → Run (setting_on t.day e.call) e.call.sender 1 (records_in e.call.upload) c vs d
      → e.reply ≡ taken_reply (setting_on t.day e.call) e.call vs → Received c e d

pub record AllJudged (s : Setting) (k : List ℕ) (xs : List Record) (c : Contents) (vs : List (Option Rule)) (fs : List Fault) (n : Counts) (d : Contents) (vs′ : List (Option Rule)) (fs′ : List Fault) : Type 0 where
  pub given : List (Option Rule)
  pub run : Run s k 1 xs c given d
  pub counts : n ≡ counts_of given (faults_along s 1 xs given)
  pub verdicts : vs′ ≡ overwritten vs given
  pub faults : fs′ ≡ overwritten fs (faults_along s 1 xs given)

pub record Exact (c : Contents) (e : Event) (d : Contents) : Type 0 where
  pub law : Received c e d
  pub only : (r : Reply) (m : Contents) → Received c (record e { reply = r }) m → (r ≡ e.reply) × (m ≡ d)

abbrev pub reply_in : Result Counts Refusal → List (Option Rule) → List Fault → Reply
reply_in (Ok n) vs fs = record { answer = Ok n; verdicts = take n.records vs; faults = take n.faults fs }
reply_in (Err r) vs fs = refused_reply r

abbrev pub event_in : Meaning → List ℕ → List ℕ → List ℕ → List (Option Rule) → List Fault → Result Counts Refusal → Event
event_in m s d u vs fs r = record {
  call = record { sender = s; day = d; upload = u; verdict_rows = length vs; report_rows = length fs; listed = m };
  reply = reply_in r vs fs;
}

abbrev pub event_of : Meaning → Delivery → List (Option Rule) → List Fault → Result Counts Refusal → Event
event_of m d vs fs r = event_in m d.sender.now d.day.now d.upload.now vs fs r
