-- Judging one record of an upload after another. Assumes nothing.
use Rattle.std.proofs.Common.{◌≡◌, ℕ, Bool, not, min, ◌-◌, ◌*◌, true, false, if◌then◌else◌, ◌+◌, ◌<◌, ◌≤◌, ◌^◌, List, [], ◌∷◌, ◌++◌, length, map, None, Some, Option, refl, sym, ap, ◌∙◌, subst, arith, length-append}
use Rattle.std.proofs.lemmas.List.Sums.{fold-append}
use Rattle.std.specs.Prelude.{is_none, is_some, count_by}
use Rattle.std.proofs.lemmas.Bool.Decides.{nat_tests}
use Rattle.std.specs.Iterator.{Yields}
use Rattle.uploads.specs.Calls.{right_length}
use Rattle.uploads.specs.declared.upload.Upload.{Upload}
use Rattle.grammar.proofs.Tested.{lawful_from_test}
use Rattle.grammar.specs.Grammar.{Lawful}
use Rattle.grammar.specs.Items.{items_of}
use Rattle.records.specs.Records.{Record, records_of}
use Rattle.records.specs.Reading.{record_of, records_left, records_upload, GivesRecord}
use Rattle.records.specs.declared.passing.OpenRecord.{OpenRecord}
use Rattle.records.specs.declared.passing.Records.{Records}
use Rattle.records.proofs.Yielded.{records_so_far}
use Rattle.faults.specs.Reports.{begun, told, Told}
use Rattle.faults.specs.declared.report.Fault.{Fault}
use Rattle.faults.specs.declared.report.Report.{Report}
use Rattle.faults.specs.declared.rules.Rule.{Rule}
use Rattle.faults.proofs.Along.{along_push}
use Rattle.faults.proofs.Reports.{told_more, verdict-told}
use Rattle.verdicts.specs.Sights.{Setting}
use Rattle.verdicts.specs.Faults.{faults_of}
use Rattle.records.proofs.Uploads.{records_stand, records_within}
use Rattle.faults.specs.Reports.{overwritten}
use Rattle.verdicts.proofs.Few.{faults_few}
use Rattle.verdicts.proofs.Uploads.{upload_law}
use Rattle.judging.specs.Judging.{Tells, TellsOf}
use Rattle.judging.specs.declared.upload.Counts.{Counts}
use Rattle.verdicts.specs.Uploads.{faults_in, verdict_in, verdicts_in, accepted_in}

-- so far the records rs are judged
pub record Judged (s : Setting) (rs : List Record) (start now : Report) (judged accepted : ℕ) : Type 0 where
  pub told : Told start (faults_in s rs) now
  pub counted : judged ≡ length rs
  pub passed : accepted ≡ accepted_in s rs
  pub few : accepted ≤ judged

faults_more : (s : Setting) (rs : List Record) (x : Record) → faults_in s (rs ++ x ∷ []) ≡ faults_in s rs ++ faults_of s (1 + length rs) x
faults_more s rs x = along_push (λ before y. faults_of s (1 + length before) y) rs x

verdicts_more : (s : Setting) (rs : List Record) (x : Record) → verdicts_in s (rs ++ x ∷ []) ≡ verdicts_in s rs ++ verdict_in s (1 + length rs) x ∷ []
verdicts_more s rs x = along_push (λ before y. verdict_in s (1 + length before) y ∷ []) rs x

accepted_more : (s : Setting) (rs : List Record) (x : Record) → accepted_in s (rs ++ x ∷ []) ≡ accepted_in s rs + (if is_none (verdict_in s (1 + length rs) x) then 1 else 0)
accepted_more s rs x =
    ap (count_by is_none) (verdicts_more s rs x)
    ∙ fold-append (λ n v. n + (if is_none v then 1 else 0)) 0 (verdicts_in s rs) (verdict_in s (1 + length rs) x ∷ [])

-- the verdict of a report when the next record is judged is that of the record
pub verdict_is : (s : Setting) (n : ℕ) (x : Record) (now next : Report) → next ≡ told (begun now) (faults_of s n x) → next.verdict ≡ verdict_in s n x
verdict_is s n x now next e = ap (λ r. r.verdict) e ∙ verdict-told (faults_of s n x) (begun now)

pub one_more : (b : Bool) (n m k : ℕ) → n ≡ m + (if b then 1 else 0) → m ≤ k → n ≤ k + 1
one_more true n m k e l = omega (arith, e, l)
one_more false n m k e l = omega (arith, e, l)

pub judged_more : (s : Setting) (rs : List Record) (x : Record) (start now next : Report) (judged accepted after : ℕ) → next ≡ told (begun now) (faults_of s (judged + 1) x)
    → after ≡ accepted + (if is_none next.verdict then 1 else 0) → Judged s rs start now judged accepted → Judged s (rs ++ x ∷ []) start next (judged + 1) after
judged_more s rs x start now next judged accepted after e m j = record {
  told = subst (λ fs. Told start fs next) (sym (faults_more s rs x)) (told_more (faults_of s (1 + length rs) x) j.told tells);
  counted = omega (arith, j.counted, length-append rs (x ∷ []));
  passed =
      m ∙ ap (λ n. n + (if is_none next.verdict then 1 else 0)) j.passed
      ∙ ap (λ v. accepted_in s rs + (if is_none v then 1 else 0)) (verdict_is s (1 + length rs) x now next tells)
      ∙ sym (accepted_more s rs x);
  few = one_more (is_none next.verdict) after accepted judged m j.few;
}
  where
    tells : next ≡ told (begun now) (faults_of s (1 + length rs) x)
    tells = let number : judged + 1 ≡ 1 + length rs = omega (arith, j.counted) in e ∙ ap (λ n. told (begun now) (faults_of s n x)) number

pub few_bytes : (bs : List ℕ) → right_length bs ≡ true → length bs < 2 ^ 64
few_bytes bs h = grind (arith, nat_tests)

-- a record with a verdict is not counted among the accepted, and one without is
pub passes : (n : ℕ) (o : Option Rule) {b : Bool} → is_some o ≡ not b → b ≡ true → n + 1 ≡ n + (if is_none o then 1 else 0)
passes n None e h = refl
passes n (Some r) {b} e h = absurd (let k : true ≡ not true = subst (λ t. true ≡ not t) h e in cc)

pub fails : (n : ℕ) (o : Option Rule) {b : Bool} → is_some o ≡ not b → b ≡ false → n ≡ n + (if is_none o then 1 else 0)
fails n None {b} e h = absurd (let k : false ≡ not false = subst (λ t. false ≡ not t) h e in cc)
fails n (Some r) e h = omega arith

-- the records can be counted
countable : (bs : List ℕ) (l : Lawful bs) (front : List Record) (x : Record) (back : List Record) → right_length bs ≡ true → records_of (items_of l) ≡ front ++ (x ∷ back) → length front + 1 < 2 ^ 64
countable bs l front x back h e = omega (arith, few_bytes bs h, records_within bs l, ap length e, length-append front (x ∷ back))

-- a loop over them, between two turns: those that were given, and those that are left
module _ (upload : Upload) {begun from : Records} (now : Records) (xs : List OpenRecord)
    (all : (l : Lawful upload.file.bytes.now) → records_left begun ≡ records_of (items_of l)) (reads : records_upload begun ≡ upload.file.bytes.now) (same : from ≡ begun) (gave : Yields GivesRecord from xs now) where
  pub parted : (l : Lawful upload.file.bytes.now) → records_of (items_of l) ≡ map record_of xs ++ records_left now
  parted l = (records_so_far upload.file.bytes.now (records_of (items_of l)) begun from now xs (all l) reads same gave).parted

  -- one more can be counted
  pub one_more_fits : (x : OpenRecord) (next : Records) → GivesRecord now (Some x) next → length (map record_of xs) + 1 < 2 ^ 64
  one_more_fits x next g =
      let l = lawful_from_test upload.file.bytes.now upload.file.lawful in
      countable upload.file.bytes.now l (map record_of xs) (record_of x) _ upload.length (parted l ∙ ap (λ rs. map record_of xs ++ rs) g.gives)

-- all records of an upload are judged
pub tells_of : (s : Setting) (bs : List ℕ) (rs : List Record) (rows now : List Fault) (c : Counts) → right_length bs ≡ true → ((l : Lawful bs) → records_of (items_of l) ≡ rs)
    → now ≡ overwritten rows (faults_in s rs) → c.records ≡ length rs → c.accepted ≡ accepted_in s rs → c.faults ≡ min (length (faults_in s rs)) (2 ^ 64 - 1) → TellsOf s bs rows c now
tells_of s bs rs rows now c h e r n a f = record {
  tells = λ l. subst (λ xs. Tells s xs rows c now) (sym (e l)) (record { rows = r; records = n; accepted = a; faults = f ∙ uncut l });
  law = λ l. upload_law s (records_of (items_of l));
  rises = λ l. (upload_law s (records_of (items_of l))).rises bs (records_stand bs l);
}
  where
    uncut : (l : Lawful bs) → min (length (faults_in s rs)) (2 ^ 64 - 1) ≡ length (faults_in s rs)
    uncut l =
        let few = subst (λ xs. length (faults_in s xs) ≤ 2028 * (1048576 * 1048576)) (e l) (faults_few s bs l 1048576 (grind (arith, nat_tests, h))) in
        omega (arith, few)
