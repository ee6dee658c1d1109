use Rattle.std.proofs.Common.{◌≡◌, ℕ, ◌≤◌, ◌<◌, List, length, get_or, Some, None, Option, Bor, sym, ap, ◌∙◌, arith}
use Rattle.std.proofs.lemmas.Grind.{common_steps}
use Rattle.std.proofs.lemmas.Option.{slice_get_past, slice_get-get_or}
use Rattle.std.specs.List.{slice_get, HoldsAt}
use Rattle.std.specs.Option.{MatchOption, option_copied, IfSome}
use Rattle.fields.proofs.field.numbered.Goals as goal

-- what `get` gives
got : {X : Type 0} (xs : List X) (i : ℕ) (o : Option (Bor X))
    → MatchOption o (length xs ≤ i) (λ x. (i < length xs) × HoldsAt (λ y. x.now ≡ y) xs i) → IfSome o (λ x. x.now ≡ get_or xs i x.now)
    → option_copied o ≡ slice_get xs i
got xs i None h k = sym (slice_get_past xs i h)
got xs i (Some x) h k = ap Some k ∙ sym (slice_get-get_or xs i x.now h.0)

pub returns : goal.returns
returns c =
    let g = c.get.ensures.lookup in
    let e = got _ _ _ g.3 g.1 in
    grind (arith, common_steps, e)
