-- The lowest of the rules that are broken. Assumes nothing.
--     IsLowest P o   o is the lowest rule of which P holds, or none, if it holds of none
use Rattle.std.specs.Prelude.{◌≤◌, Option, MatchOption}
use Rattle.faults.specs.Rules.{number_of}
use Rattle.faults.specs.declared.rules.Rule.{Rule}

abbrev pub IsLowest : (Rule → Type 0) → Option Rule → Type 0
IsLowest P o = MatchOption o ((r : Rule) → ¬ P r) (λ r. P r × ((s : Rule) → P s → number_of r ≤ number_of s))
