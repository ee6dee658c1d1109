-- An action is what its letter names, and nothing else. Assumes nothing.
use Rattle.std.proofs.Common.{◌≡◌, ℕ, List, [], ◌∷◌, Some, refl, arith}
use Rattle.std.proofs.lemmas.Bool.Decides.{nat_tests}
use Rattle.fields.specs.Actions.{letter_of, action_in}
use Rattle.fields.specs.Inverse.{Inverse}
use Rattle.fields.specs.declared.action.Action.{Action}
use Rattle.fields.specs.declared.action.Action.TheVariants.{Normal, Exceptional, Cancel, Delete}

named : (a : Action) → action_in (letter_of a) ≡ Some a
named Normal = refl
named Exceptional = refl
named Cancel = refl
named Delete = refl

only : (bs : List ℕ) (a : Action) → action_in bs ≡ Some a → letter_of a ≡ bs
only [] a e = grind arith
only (b ∷ []) a e = grind (arith, nat_tests)
only (b ∷ c ∷ bs) a e = grind (arith, nat_tests)

pub inverse : Inverse letter_of action_in
inverse = record { named = named; only = only }
