-- A record is judged. Assumes nothing.
use Rattle.std.proofs.Common.{◌≡◌, ℕ, List, [], ◌∷◌, Option, Some, None, refl, sym, ap, ◌∙◌, subst}
use Rattle.std.proofs.lemmas.Option.{none-some}
use Rattle.records.specs.Records.{Record}
use Rattle.cells.specs.Cells.{value_at}
use Rattle.cells.specs.declared.cells.Cells.{Cells}
use Rattle.fields.specs.declared.field.Field.{Field}
use Rattle.faults.proofs.Reports.{verdict-told}
use Rattle.faults.specs.Reports.{begun, told, verdict_of}
use Rattle.faults.specs.declared.report.Report.{Report}
use Rattle.faults.specs.declared.report.Fault.{Fault}
use Rattle.faults.specs.declared.rules.Rule.{Rule}
use Rattle.register.specs.Contents.{Contents}
use Rattle.verdicts.specs.Sights.{Setting}
use Rattle.verdicts.specs.Faults.{faults_of, first_told}
use Rattle.filings.specs.Filings.{filing_in}
use Rattle.filings.specs.declared.filing.Filing.{Filing}
use Rattle.settling.specs.Verdicts.{IsLowest}
use Rattle.receiving.specs.Contents.{values_of, filing_of}
use Rattle.receiving.specs.Judging.{IsBroken, filed_in, SettledAny, Judges, standing_faults, faults_told}
use Rattle.receiving.proofs.Verdicts.{faulty, settled, unfiled}

module _ (s : Setting) (k : List ℕ) (n : ℕ) (x : Record) (c : Contents) where
  -- by itself
  pub itself : (r : Rule) → verdict_of (faults_of s n x) ≡ Some r → Judges s k n x c (Some r) c × (faults_of s n x ≡ faults_told s n x (Some r))
  itself r e = by (faults_of s n x) refl
    where
      by : (fs : List Fault) → faults_of s n x ≡ fs → Judges s k n x c (Some r) c × (faults_of s n x ≡ faults_told s n x (Some r))
      by [] h = absurd (none-some r (sym (ap verdict_of h) ∙ e))
      by (f ∷ fs) h = (
        record { verdict = subst (IsLowest (IsBroken s k n x c)) (sym (ap verdict_of h) ∙ e) (faulty s k n x c f fs h); after = refl },
        h ∙ sym (ap (λ l. first_told l (standing_faults n x (Some r))) h),
      )

  -- or else by the register
  pub unfaulted : verdict_of (faults_of s n x) ≡ None → faults_of s n x ≡ []
  unfaulted e = by (faults_of s n x) refl
    where
      by : (fs : List Fault) → faults_of s n x ≡ fs → faults_of s n x ≡ []
      by [] h = h
      by (f ∷ fs) h = absurd (none-some f.rule (sym e ∙ ap verdict_of h))

  pub by_register : faults_of s n x ≡ [] → (o : Option Filing) → filing_of k x ≡ o → (v : Option Rule) (d : Contents) → SettledAny c s.today o v d → Judges s k n x c v d
  by_register e None p None d h = record { verdict = unfiled s k n x c e p; after = h.1 ∙ sym (ap (filed_in c) p) }
  by_register e None p (Some r) d h = absurd (none-some r (sym h.0))
  by_register e (Some q) p None d h = record { verdict = settled s k n x c e q p None h.verdict; after = h.after ∙ sym (ap (filed_in c) p) }
  by_register e (Some q) p (Some r) d h = record { verdict = settled s k n x c e q p (Some r) h.verdict; after = h.after }

  pub told_by_register : faults_of s n x ≡ [] → (v : Option Rule) (old between new : Report) → between ≡ told (begun old) (faults_of s n x) → new ≡ told between (standing_faults n x v) → new ≡ told (begun old) (faults_told s n x v)
  told_by_register e v old between new p q =
      q ∙ ap (λ r. told r (standing_faults n x v)) (p ∙ ap (told (begun old)) e) ∙ sym (ap (λ l. told (begun old) (first_told l (standing_faults n x v))) e)

-- what a report tells of the faults of a record alone
pub verdict_told : (fs : List Fault) (old : Report) → (told (begun old) fs).verdict ≡ verdict_of fs
verdict_told fs old = verdict-told fs (begun old)

-- what is read of the cells of a record is what it files
pub same_filing : (k : List ℕ) (x : Record) (cells : Cells) → ((f : Field) → value_at cells f ≡ values_of x f) → filing_in k (value_at cells) ≡ filing_of k x
same_filing k x cells h = ap (filing_in k) (λ i f. h f i)
