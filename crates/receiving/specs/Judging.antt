-- How the records of an upload are judged, each against the register that those before it left. Assumes nothing.
--     IsBroken s k n x c r     the record x of the sender k, which has the number n, breaks the rule r where the register holds c
--     filed_in c o             the register c after what is filed
--     SettledAny c today o v d what is filed, if anything is, is settled
--     Judges s k n x c v d     x has the verdict v, the lowest rule that it breaks; d is c after what x files, if it breaks none, and else c
--     standing_faults n x v    the fault that a rule of the register's, v, tells: at M15
--     faults_told s n x v      the faults of a record with the verdict v: those of its first tier that has any, or else that
--     Run s k n xs c vs d      the records xs, numbered from n, have the verdicts vs, one after the other, and the register c becomes d
--     faults_along s n xs vs   all their faults
use Rattle.std.specs.Prelude.{◌≡◌, ◌⊎◌, ℕ, ◌+◌, List, [], ◌∷◌, ◌++◌, Option, Some, None, MatchOption, is_none, if◌then◌else◌}
use Rattle.calendar.specs.Calendar.{Date}
use Rattle.fields.specs.Fields.{id_of}
use Rattle.fields.specs.declared.field.Field.TheVariants.{M15}
use Rattle.records.specs.Records.{Record}
use Rattle.faults.specs.declared.report.Fault.{Fault}
use Rattle.faults.specs.declared.rules.Rule.{Rule}
use Rattle.register.specs.Contents.{Contents}
use Rattle.verdicts.specs.Sights.{Setting}
use Rattle.verdicts.specs.Faults.{fault, faults_of, first_told}
use Rattle.verdicts.specs.Broken.{Breaks}
use Rattle.filings.specs.declared.filing.Filing.{Filing}
use Rattle.settling.specs.Against.{Against}
use Rattle.settling.specs.Settled.{done, Settled}
use Rattle.settling.specs.Verdicts.{IsLowest}
use Rattle.receiving.specs.Contents.{filing_of, key_place}

abbrev pub IsBroken : Setting → List ℕ → ℕ → Record → Contents → Rule → Type 0
IsBroken s k n x c r =
    ((y : Fault) × Breaks s n x y × (y.rule ≡ r)) ⊎ ((q : Filing) × (filing_of k x ≡ Some q) × Against c s.today q r)

abbrev pub filed_in : Contents → Option Filing → Contents
filed_in c None = c
filed_in c (Some q) = done c q.key q.deed

abbrev pub SettledAny : Contents → Date → Option Filing → Option Rule → Contents → Type 0
SettledAny c today o v d = MatchOption o ((v ≡ None) × (d ≡ c)) (λ q. Settled c today q v d)

pub record Judges (s : Setting) (k : List ℕ) (n : ℕ) (x : Record) (c : Contents) (v : Option Rule) (d : Contents) : Type 0 where
  pub verdict : IsLowest (IsBroken s k n x c) v
  pub after : d ≡ if is_none v then filed_in c (filing_of k x) else c

abbrev pub standing_faults : ℕ → Record → Option Rule → List Fault
standing_faults n x None = []
standing_faults n x (Some r) = fault n 1 r (id_of M15) (key_place x) ∷ []

abbrev pub faults_told : Setting → ℕ → Record → Option Rule → List Fault
faults_told s n x v = first_told (faults_of s n x) (standing_faults n x v)

pub data Run (s : Setting) (k : List ℕ) : ℕ → List Record → Contents → List (Option Rule) → Contents → Type 0 where
  ended : {n : ℕ} {c : Contents} → Run s k n [] c [] c
  judged : {n : ℕ} {x : Record} {xs : List Record} {c m d : Contents} {v : Option Rule} {vs : List (Option Rule)}
      → Judges s k n x c v m → Run s k (n + 1) xs m vs d → Run s k n (x ∷ xs) c (v ∷ vs) d

abbrev pub faults_along : Setting → ℕ → List Record → List (Option Rule) → List Fault
faults_along s n (x ∷ xs) (v ∷ vs) = faults_told s n x v ++ faults_along s (n + 1) xs vs
faults_along s n _ _ = []
