-- Judging one record of an upload after another. Assumes nothing.
use Rattle.std.proofs.Common.{◌≡◌, ℕ, suc, ◌+◌, ◌-◌, ◌*◌, ◌^◌, ◌≤◌, Bool, min, if◌then◌else◌, List, [], ◌∷◌, ◌++◌, length, Option, Some, None, slice_set, refl, sym, ap, ◌∙◌, subst, arith, length-append, true, false}
use Rattle.std.proofs.lemmas.Bool.Decides.{nat_tests}
use Rattle.std.proofs.lemmas.List.{append-nil, append_assoc}
use Rattle.std.proofs.lemmas.List.Sums.{fold-append}
use Rattle.std.specs.Prelude.{is_none, count_by}
use Rattle.grammar.proofs.Tested.{test_from_lawful}
use Rattle.grammar.specs.Grammar.{Lawful}
use Rattle.grammar.specs.Items.{items_of}
use Rattle.records.proofs.Uploads.{records_within}
use Rattle.records.specs.Records.{Record, records_of}
use Rattle.uploads.specs.Calls.{right_length}
use Rattle.faults.specs.Along.{along}
use Rattle.faults.specs.Reports.{begun, told, overwritten, Told}
use Rattle.faults.specs.declared.report.Fault.{Fault}
use Rattle.faults.specs.declared.report.Report.{Report}
use Rattle.faults.specs.declared.rules.Rule.{Rule}
use Rattle.faults.proofs.Reports.{told_more, overwritten_none, overwritten_more}
use Rattle.register.specs.Contents.{Contents}
use Rattle.verdicts.specs.Sights.{Setting}
use Rattle.verdicts.proofs.Few.{faults_few}
use Rattle.verdicts.specs.Faults.{faults_of, first_told}
use Rattle.verdicts.specs.Uploads.{faults_in}
use Rattle.judging.proofs.Uploads.{one_more}
use Rattle.receiving.specs.Contents.{records_in}
use Rattle.receiving.specs.Receiving.{AllJudged}
use Rattle.receiving.proofs.Reading.{in_each}
use Rattle.receiving.specs.Judging.{Judges, Run, ended, judged, standing_faults, faults_told, faults_along}

module _ (s : Setting) (k : List ℕ) where
  pub as_many : {n : ℕ} {xs : List Record} {c d : Contents} {vs : List (Option Rule)} → Run s k n xs c vs d → length vs ≡ length xs
  as_many ended = refl
  as_many (judged p r) = let e = as_many r in omega (arith, e)

  -- one record more
  run_more : {n : ℕ} {xs : List Record} {c m : Contents} {vs : List (Option Rule)} → Run s k n xs c vs m → (x : Record) (v : Option Rule) (d : Contents) → Judges s k (n + length xs) x m v d
      → Run s k n (xs ++ x ∷ []) c (vs ++ v ∷ []) d
  run_more {n} {m = m} ended x v d j = judged (subst (λ i. Judges s k i x m v d) (let e : n + 0 ≡ n = omega arith in e) j) ended
  run_more {n} {m = m} (judged {xs = xs} p r) x v d j = judged p (run_more r x v d (subst (λ i. Judges s k i x m v d) (let e : n + suc (length xs) ≡ (n + 1) + length xs = omega arith in e) j))

  along_more : {n : ℕ} {xs : List Record} {c m : Contents} {vs : List (Option Rule)} → Run s k n xs c vs m → (x : Record) (v : Option Rule)
      → faults_along s n (xs ++ x ∷ []) (vs ++ v ∷ []) ≡ faults_along s n xs vs ++ faults_told s (n + length xs) x v
  along_more {n} ended x v = append-nil (faults_told s n x v) ∙ ap (λ i. faults_told s i x v) (let e : n ≡ n + 0 = omega arith in e)
  along_more {n} (judged {x = y} {xs = xs} {v = w} {vs = vs} p r) x v =
      ap (λ l. faults_told s n y w ++ l) (along_more r x v ∙ ap (λ i. faults_along s (n + 1) xs vs ++ faults_told s i x v) (let e : (n + 1) + length xs ≡ n + suc (length xs) = omega arith in e))
      ∙ sym (append_assoc (faults_told s n y w) (faults_along s (n + 1) xs vs) (faults_told s (n + suc (length xs)) x v))

-- so far the records xs are judged
pub record SoFar (s : Setting) (k : List ℕ) (xs : List Record) (c : Contents) (rows : List (Option Rule)) (start : Report) (d : Contents) (verdicts : List (Option Rule)) (report : Report) (judged accepted : ℕ) : Type 0 where
  pub given : List (Option Rule)
  pub run : Run s k 1 xs c given d
  pub told : Told start (faults_along s 1 xs given) report
  pub written : verdicts ≡ overwritten rows given
  pub counted : judged ≡ length xs
  pub passed : accepted ≡ count_by is_none given
  pub few : accepted ≤ judged

pub so_far_more : (s : Setting) (k : List ℕ) (xs : List Record) (x : Record) (c : Contents) (rows : List (Option Rule)) (start : Report) (d m : Contents) (verdicts : List (Option Rule)) (report next : Report) (n accepted after : ℕ) (v : Option Rule)
    → Judges s k (n + 1) x d v m → next ≡ told (begun report) (faults_told s (n + 1) x v) → after ≡ accepted + (if is_none v then 1 else 0)
    → SoFar s k xs c rows start d verdicts report n accepted → SoFar s k (xs ++ x ∷ []) c rows start m (slice_set verdicts n v) next (n + 1) after
so_far_more s k xs x c rows start d m verdicts report next n accepted after v j t a h =
    let number : n + 1 ≡ 1 + length xs = omega (arith, h.counted) in
    record {
      given = h.given ++ v ∷ [];
      run = run_more s k h.run x v m (subst (λ i. Judges s k i x d v m) number j);
      told = subst (λ l. Told start l next) (sym (along_more s k h.run x v)) (told_more (faults_told s (1 + length xs) x v) h.told (t ∙ ap (λ i. told (begun report) (faults_told s i x v)) number));
      written = (λ i. slice_set (h.written i) ((h.counted ∙ sym (as_many s k h.run)) i) v) ∙ overwritten_more rows h.given v;
      counted = omega (arith, h.counted, length-append xs (x ∷ []));
      passed = a ∙ ap (λ i. i + (if is_none v then 1 else 0)) h.passed ∙ sym (fold-append (λ i o. i + (if is_none o then 1 else 0)) 0 h.given (v ∷ []));
      few = one_more (is_none v) after accepted n a h.few;
    }

pub so_far_none : (s : Setting) (k : List ℕ) (c : Contents) (rows : List (Option Rule)) (start : Report) → SoFar s k [] c rows start c rows start 0 0
so_far_none s k c rows start = record { given = []; run = ended; told = record { but_verdict = refl }; written = sym (overwritten_none rows); counted = refl; passed = refl; few = omega arith }

-- a record has one fault at most beside those of its own rules
module _ (s : Setting) where
  told_few : (n : ℕ) (x : Record) (v : Option Rule) (fs : List Fault) → length (first_told fs (standing_faults n x v)) ≤ length fs + 1
  told_few n x None [] = omega arith
  told_few n x (Some r) [] = omega arith
  told_few n x v (f ∷ fs) = omega arith

  along_few : (before xs : List Record) (vs : List (Option Rule)) → length (faults_along s (1 + length before) xs vs) ≤ length (along (λ b x. faults_of s (1 + length b) x) before xs) + length xs
  along_few before [] vs = omega arith
  along_few before (x ∷ xs) [] = omega arith
  along_few before (x ∷ xs) (v ∷ vs) =
      let rest = subst (λ i. length (faults_along s i xs vs) ≤ length (along (λ b x. faults_of s (1 + length b) x) (before ++ x ∷ []) xs) + length xs)
      (let e : 1 + length (before ++ x ∷ []) ≡ (1 + length before) + 1 = omega (arith, length-append before (x ∷ [])) in e) (along_few (before ++ x ∷ []) xs vs) in
      omega (
        arith,
        rest,
        told_few (1 + length before) x v (faults_of s (1 + length before) x),
        length-append (faults_told s (1 + length before) x v) (faults_along s ((1 + length before) + 1) xs vs),
        length-append (faults_of s (1 + length before) x) (along (λ b x. faults_of s (1 + length b) x) (before ++ x ∷ []) xs),
      )

-- all records of an upload are judged
pub all_judged : (s : Setting) (k bs : List ℕ) (l : Lawful bs) (xs : List Record) (c : Contents) (vs : List (Option Rule)) (start : Report) (d : Contents) (vs′ : List (Option Rule)) (report : Report) (n accepted faults : ℕ)
    (fs fs′ : List Fault) → right_length bs ≡ true → ((m : Lawful bs) → records_of (items_of m) ≡ xs) → (h : SoFar s k xs c vs start d vs′ report n accepted)
    → fs′ ≡ overwritten fs (faults_along s 1 xs h.given) → faults ≡ min (length (faults_along s 1 xs h.given)) (2 ^ 64 - 1)
    → AllJudged s k (records_in bs) c vs fs (record { records = n; accepted = accepted; faults = faults }) d vs′ fs′
all_judged s k bs l xs c vs start d vs′ report n accepted faults fs fs′ right same h rows count =
    let bound = subst (λ rs. length (faults_in s rs) ≤ 2028 * (1048576 * 1048576)) (same l) (faults_few s bs l 1048576 (grind (arith, nat_tests, right))) in
    let in_all = subst (λ rs. length rs ≤ length bs) (same l) (records_within bs l) in
    let short : length bs ≤ 1048576 = grind (arith, nat_tests, right) in
    let exact : faults ≡ length (faults_along s 1 xs h.given) = omega (arith, count, along_few s [] xs h.given, bound, in_all, short) in
    subst (λ rs. AllJudged s k rs c vs fs (record { records = n; accepted = accepted; faults = faults }) d vs′ fs′)
    (sym (in_each (λ rs. rs ≡ xs) bs (test_from_lawful bs l) same))
    (record {
      given = h.given;
      run = h.run;
      counts = λ i. record { records = (h.counted ∙ sym (as_many s k h.run)) i; accepted = h.passed i; faults = exact i };
      verdicts = h.written;
      faults = rows;
    })
