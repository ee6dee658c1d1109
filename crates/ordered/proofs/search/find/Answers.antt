use Rattle.std.proofs.Common.{sym, refl, ◌∙◌, arith}
use Rattle.ordered.proofs.Searching.{ends, less_on, greater_up_to, greater_before, equal_at}
use Rattle.ordered.proofs.search.find.Goals as goal

pub loop-low-preserved-in-Less : goal.loop-low-preserved-in-Less
loop-low-preserved-in-Less g c =
    let i = c.loop-low.invariant in
    (omega arith, omega arith, i.2, less_on g.met.K.Ord.total _ _ c.requires _ (omega arith) _ (sym c.cmp.ensures ∙ c.in-Less.is))

pub loop-low-preserved : goal.loop-low-preserved
loop-low-preserved g c =
    let i = c.loop-low.invariant in
    (omega arith, i.1, greater_up_to g.met.K.Ord.total _ _ c.requires _ (omega arith) _ (sym c.cmp.ensures ∙ c.in-Greater.is), i.3)

pub returns-in-Equal-clause-ends : goal.returns-in-Equal-clause-ends
returns-in-Equal-clause-ends g c =
    let i = c.loop-low.invariant in
    let equal = sym c.cmp.ensures ∙ c.in-Equal.is in
    ends g.K.Ord.cmp c.args.key.now _ _ _ (omega arith) (greater_before g.met.K.Ord.total _ _ c.requires _ (omega arith) _ equal) (λ d h. equal_at g.met.K.Ord.total _ _ c.requires _ h _ equal d) (λ past. absurd (omega arith))

pub returns-clause-ends : goal.returns-clause-ends
returns-clause-ends g c =
    let i = c.loop-low.invariant in
    ends g.K.Ord.cmp c.args.key.now _ _ _ (omega arith) i.2 (λ d h. i.3 _ d (omega arith) h) (λ _. refl)
