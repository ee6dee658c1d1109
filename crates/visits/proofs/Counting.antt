-- One answer more in the tally. Assumes nothing.
use Rattle.std.proofs.Common.{Ok, Err, is_ok, is_err, cond, List, [], ◌∷◌, ◌++◌, arith}
use Rattle.std.proofs.lemmas.List.Sums.{sum_by_push}
use Rattle.visits.specs.Answers.{Answer}
use Rattle.visits.specs.Sessions.{tally_with, Counted}
use Rattle.visits.specs.declared.tally.Tally.{Tally}

pub counted_more : (given : List Answer) (t : Tally) (a : Answer) → Counted given t → Counted (given ++ a ∷ []) (tally_with t a)
counted_more given t a c =
    let due = sum_by_push (λ x. cond (is_ok x) 1 0) given a in
    let none = sum_by_push (λ x. cond (is_err x) 1 0) given a in
    let p = c.due in
    let q = c.none in
    elim a [ Ok d ↦ record { due = grind arith; none = grind arith } | Err e ↦ record { due = grind arith; none = grind arith } ]
