-- What the faults of a record are. Assumes nothing.
--     Clean s n x t      no rule of the tier t is broken
--     Listed s n x y     y is a fault of the record, its rule is of a tier, and all earlier tiers are clean
--     FaultLaw s n x     what the list faults_of s n x is of the record x, which has the number n:
--         only, every    it has the faults that are listed, and all of them
--         numbered       each has the number of the record
--         rises          where the record is well formed, each stands before those that follow it: so none is there twice
--         accepts        there is no verdict exactly if nothing at all is broken
--         refuses        the verdict is a rule that is broken
--         lowest         and no broken rule has a lower number
use Rattle.std.specs.Prelude.{◌≡◌, ◌↔◌, ℕ, ◌≤◌, List, ◌∷◌, ◌++◌, Some, None}
use Rattle.records.specs.Records.{Record}
use Rattle.records.specs.Orderly.{WellFormed}
use Rattle.faults.specs.Along.{In}
use Rattle.faults.specs.Order.{Rises}
use Rattle.faults.specs.Reports.{verdict_of}
use Rattle.faults.specs.Rules.{number_of, rules_of, tiers}
use Rattle.faults.specs.declared.report.Fault.{Fault}
use Rattle.faults.specs.declared.rules.Rule.{Rule}
use Rattle.faults.specs.declared.rules.Tier.{Tier}
use Rattle.verdicts.specs.Sights.{Setting}
use Rattle.verdicts.specs.Faults.{faults_of}
use Rattle.verdicts.specs.Broken.{Breaks}

abbrev pub Clean : Setting → ℕ → Record → Tier → Type 0
Clean s n x t = (y : Fault) → Breaks s n x y → ¬ In y.rule (rules_of t)

pub record Listed (s : Setting) (n : ℕ) (x : Record) (y : Fault) : Type 0 where
  pub breaks : Breaks s n x y
  pub earlier : List Tier
  pub tier : Tier
  pub later : List Tier
  pub of : In y.rule (rules_of tier)
  pub order : tiers ≡ earlier ++ (tier ∷ later)
  pub clean : (t : Tier) → In t earlier → Clean s n x t

pub record FaultLaw (s : Setting) (n : ℕ) (x : Record) : Type 0 where
  pub only : (y : Fault) → In y (faults_of s n x) → Listed s n x y
  pub every : (y : Fault) → Listed s n x y → In y (faults_of s n x)
  pub numbered : (y : Fault) → In y (faults_of s n x) → y.«record» ≡ n
  pub rises : (upload : List ℕ) → WellFormed upload x → Rises (faults_of s n x)
  pub accepts : (verdict_of (faults_of s n x) ≡ None) ↔ ((y : Fault) → ¬ Breaks s n x y)
  pub refuses : (r : Rule) → verdict_of (faults_of s n x) ≡ Some r → (y : Fault) × Breaks s n x y × (y.rule ≡ r)
  pub lowest : (r : Rule) → verdict_of (faults_of s n x) ≡ Some r → (y : Fault) → Breaks s n x y → number_of r ≤ number_of y.rule
