-- What judge makes of an input, with a register, code lists and rows of its own. Assumes nothing.
--     After              what there is afterwards: the answer, what the register holds, and the rows
--     Judgement m bs c vs fs a
--                        a is what becomes of the input bs with code lists of the meaning m, a register that holds c, and the rows vs and fs: if its first line is not right, refusal 9, and all stays; else what becomes of its upload
--     Judged m bs c vs fs a
--                        so it is, and nothing else is
use Rattle.std.specs.Prelude.{◌≡◌, ℕ, List, Option, Result, Err}
use Rattle.reader.specs.declared.faults.Refusal.{Refusal}
use Rattle.reader.specs.declared.faults.Refusal.TheVariants as refusal
use Rattle.lists.specs.Lists.{Meaning}
use Rattle.faults.specs.Reports.{overwritten}
use Rattle.faults.specs.declared.report.Fault.{Fault}
use Rattle.faults.specs.declared.rules.Rule.{Rule}
use Rattle.register.specs.Contents.{Contents}
use Rattle.judging.specs.Inputs.{IsInput}
use Rattle.judging.specs.declared.upload.Counts.{Counts}
use Rattle.receiving.specs.Receiving.{Exact, reply_in, event_in}

pub record After : Type 0 where
  pub answer : Result Counts Refusal
  pub contents : Contents
  pub verdicts : List (Option Rule)
  pub faults : List Fault

pub data Judgement (m : Meaning) (bs : List ℕ) (c : Contents) (vs : List (Option Rule)) (fs : List Fault) (a : After) : Type 0 where
  bad_line : ((s d u : List ℕ) → ¬ IsInput bs s d u) → a ≡ record { answer = Err refusal.Call; contents = c; verdicts = vs; faults = fs } → Judgement m bs c vs fs a
  line : {s d u : List ℕ} → IsInput bs s d u → Exact c (event_in m s d u a.verdicts a.faults a.answer) a.contents
      → a.verdicts ≡ overwritten vs (reply_in a.answer a.verdicts a.faults).verdicts → a.faults ≡ overwritten fs (reply_in a.answer a.verdicts a.faults).faults
      → Judgement m bs c vs fs a

pub record Judged (m : Meaning) (bs : List ℕ) (c : Contents) (vs : List (Option Rule)) (fs : List Fault) (a : After) : Type 0 where
  pub law : Judgement m bs c vs fs a
  pub only : (b : After) → Judgement m bs c vs fs b → a ≡ b
