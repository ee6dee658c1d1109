-- From the records of an upload to a call. Assumes nothing.
use Rattle.std.proofs.Common.{◌≡◌, ℕ, ◌≤◌, List, [], ◌∷◌, length, take, Option, Some, Ok, refl, sym, ap, ◌∙◌, subst, arith}
use Rattle.std.proofs.lemmas.Bool.{and_parts}
use Rattle.std.proofs.lemmas.Bool.Decides.{nat_tests}
use Rattle.std.proofs.lemmas.List.{take_all}
use Rattle.std.specs.Prelude.{nat_le}
use Rattle.calendar.specs.Calendar.{Date}
use Rattle.calendar.specs.Written.{date_in}
use Rattle.grammar.proofs.Tested.{test_from_lawful}
use Rattle.grammar.specs.Items.{items_of}
use Rattle.uploads.specs.Calls.{Told, right_day, is_sender, least_rows}
use Rattle.uploads.specs.Answers.{Taken, Answer, Answered, Within}
use Rattle.uploads.specs.Answers as answers
use Rattle.lists.specs.Lists.{Meaning}
use Rattle.faults.proofs.Reports.{length-overwritten}
use Rattle.faults.specs.Reports.{overwritten}
use Rattle.faults.specs.declared.report.Fault.{Fault}
use Rattle.faults.specs.declared.rules.Rule.{Rule}
use Rattle.register.specs.Contents.{Contents}
use Rattle.verdicts.specs.Sights.{Setting}
use Rattle.judging.specs.declared.upload.Counts.{Counts}
use Rattle.receiving.specs.Contents.{records_in}
use Rattle.receiving.specs.Judging.{faults_along}
use Rattle.receiving.specs.Events.{Call}
use Rattle.receiving.specs.Receiving.{Received, taken, AllJudged, reply_in}
use Rattle.receiving.proofs.Few.{few_records}
use Rattle.receiving.proofs.Taking.{enough, sound, limits, same_upload}
use Rattle.receiving.proofs.Loops.{as_many}
use Rattle.receiving.proofs.Reading.{in_each}

module _ {A : Type 0} where
  -- the rows that are written are read again
  front : (rows xs : List A) → take (length xs) (overwritten rows xs) ≡ take (length rows) xs
  front [] [] = refl
  front [] (x ∷ xs) = refl
  front (y ∷ rows) [] = refl
  front (y ∷ rows) (x ∷ xs) = ap (λ l. x ∷ l) (front rows xs)

  again : (rows xs : List A) → overwritten rows (take (length rows) xs) ≡ overwritten rows xs
  again [] [] = refl
  again [] (x ∷ xs) = refl
  again (y ∷ rows) [] = refl
  again (y ∷ rows) (x ∷ xs) = ap (λ l. x ∷ l) (again rows xs)

few : (c : Told) (t : Taken) → Answer c (Ok t) → length (records_in c.upload) ≤ c.rows
few c t a =
    let w = limits c t a in
    let n = in_each (λ rs. length rs ≤ 4096) c.upload (test_from_lawful c.upload w.lawful) (λ l. few_records (items_of l) (w.limits l)) in
    omega (arith, n, enough c t.day (sound c t a).day)

-- a call that is taken
module _ (m : Meaning) (k day u : List ℕ) (vs vs′ : List (Option Rule)) (fs fs′ : List Fault) (t : Taken) (c d : Contents) (n : Counts) where
  abbrev asked : Told
  asked = record { sender = k; day = day; upload = u; rows = length vs }

  abbrev call : Call
  call = record { sender = k; day = day; upload = u; verdict_rows = length vs′; report_rows = length fs′; listed = m }

  abbrev by : Setting
  by = record { today = t.day; listed = m }

  taken_with : Answered asked (Ok t) → AllJudged by k (records_in u) c vs fs n d vs′ fs′ → Received c (record { call = call; reply = reply_in (Ok n) vs′ fs′ }) d
  taken_with a h =
      let told = faults_along by 1 (records_in u) h.given in
      let rows = ap length h.verdicts ∙ length-overwritten vs h.given in
      let reports = ap length h.faults ∙ length-overwritten fs told in
      let short : length h.given ≤ length vs = omega (arith, few asked t a.law, as_many by k h.run) in
      let verdicts = ap (λ l. take n.records l) h.verdicts ∙ ap (λ j. take j.records (overwritten vs h.given)) h.counts ∙ front vs h.given ∙ take_all (length vs) h.given short in
      let faults = ap (λ l. take n.faults l) h.faults ∙ ap (λ j. take j.faults (overwritten fs told)) h.counts ∙ front fs told ∙ ap (λ j. take j told) (sym reports) in
      taken {t = t} {vs = h.given} (subst (λ i. Answered (record asked { rows = i }) (Ok t)) (sym rows) a) h.run
      (λ i. record { answer = Ok (h.counts i); verdicts = verdicts i; faults = faults i })

  pub received : Answered asked (Ok t) → AllJudged by t.sender (records_in t.upload) c vs fs n d vs′ fs′ → Received c (record { call = call; reply = reply_in (Ok n) vs′ fs′ }) d
  received a h =
      let same = same_upload asked t a.law in
      taken_with a (subst (λ o. AllJudged by k (records_in o) c vs fs n d vs′ fs′) same.0 (subst (λ o. AllJudged by o (records_in t.upload) c vs fs n d vs′ fs′) same.1 h))
