-- What the exit of a `?` returns. Assumes nothing.
use Rattle.std.proofs.Common.{◌≡◌, Result, Ok, Err, IfErr, sym, subst}
use Rattle.std.specs.Result.{IsErrAnd}

pub at_exit : {T E : Type 0} (P : E → Type 0) (r : Result T E) (e : E) → IsErrAnd r (λ y. y ≡ e) → P e → IfErr r P
at_exit P (Ok x) e h p = absurd h
at_exit P (Err y) e h p = subst P (sym h) p
