use Rattle.std.proofs.Common.{◌+◌, ◌∙◌, sym, subst}
use Rattle.std.proofs.lemmas.Bool.{false≢true}
use Rattle.lists.proofs.Filling.{IsFilled, filled_on, is_read}
use Rattle.lists.proofs.ordered_lists.OrderedLists.new.Goals.{in-Some-read, in_default-read}
use Rattle.lists.proofs.ordered_lists.OrderedLists.new.Goals as goal

pub loop-row-preserved : goal.loop-row-preserved
loop-row-preserved c = elim c.match-read.branch [
  | in-Some-read w ↦ subst (IsFilled c.args.rows.now (c.loop-row.row-index + 1)) (sym (w.table-is ∙ w.put.ensures.after))
      (filled_on _ c.in_default.ensures _ _ c.loop-row-test.true _ _ w.in-Some-read.ensures _ c.loop-row.invariant)
  | in_default-read w ↦ absurd (false≢true (sym w.in_default-read.ensures ∙ is_read _ c.in_default.ensures _ _ c.loop-row-test.true))
]
