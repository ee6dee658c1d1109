-- The input of judge. Assumes nothing.
--     IsInput bs s d u       bs is a line with the sender s and the receipt day d, and then the upload u
--     told s d u             the call that such an input makes: there are as many verdict rows as a call needs
--     CallIn bs o            o is the call that the input bs makes, or none, if its first line is not right
--     Makes bs c             c is the call that the input bs makes
--     Judgement m bs before r after
--                            r is what judge makes of the input bs with code lists of the meaning m, and after are its report rows, which were before
--     Judged m bs before r after
--                            so it is, and nothing else is
use Rattle.std.specs.Prelude.{◌≡◌, ℕ, List, ◌∷◌, ◌++◌, length, Option, MatchOption, Result, Ok, Err}
use Rattle.reader.specs.declared.faults.Refusal.{Refusal}
use Rattle.reader.specs.declared.faults.Refusal.TheVariants.{Call}
use Rattle.uploads.specs.Calls.{Told, least_rows}
use Rattle.uploads.specs.Answers.{Taken, Answered}
use Rattle.lists.specs.Lists.{Meaning}
use Rattle.faults.specs.declared.report.Fault.{Fault}
use Rattle.judging.specs.Judging.{TellsOf}
use Rattle.judging.specs.declared.upload.Counts.{Counts}

pub record IsInput (bs sender day upload : List ℕ) : Type 0 where
  pub is : bs ≡ sender ++ (0x20 ∷ (day ++ (0x0a ∷ upload)))
  pub ten : length sender ≡ 10
  pub seven : length day ≡ 7

abbrev pub told : List ℕ → List ℕ → List ℕ → Told
told s d u = record { sender = s; day = d; upload = u; rows = least_rows }

pub record Makes (bs : List ℕ) (c : Told) : Type 0 where
  pub input : IsInput bs c.sender c.day c.upload
  pub rows : c.rows ≡ least_rows

abbrev pub CallIn : List ℕ → Option Told → Type 0
CallIn bs o = MatchOption o ((s d u : List ℕ) → ¬ IsInput bs s d u) (Makes bs)

pub data Judgement (m : Meaning) (bs : List ℕ) (before : List Fault) : Result Counts Refusal → List Fault → Type 0 where
  bad_line : ((s d u : List ℕ) → ¬ IsInput bs s d u) → Judgement m bs before (Err Call) before
  refused : {s d u : List ℕ} {r : Refusal} → IsInput bs s d u → Answered (told s d u) (Err r) → Judgement m bs before (Err r) before
  taken : {s d u : List ℕ} {t : Taken} {c : Counts} {after : List Fault} → IsInput bs s d u → Answered (told s d u) (Ok t)
      → TellsOf (record { today = t.day; listed = m }) t.upload before c after → Judgement m bs before (Ok c) after

pub record Judged (m : Meaning) (bs : List ℕ) (before : List Fault) (r : Result Counts Refusal) (after : List Fault) : Type 0 where
  pub law : Judgement m bs before r after
  pub only : (q : Result Counts Refusal) (rows : List Fault) → Judgement m bs before q rows → (r ≡ q) × (after ≡ rows)
