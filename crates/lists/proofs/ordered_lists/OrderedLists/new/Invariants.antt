use Rattle.lists.proofs.Filling.{IsFilled}
use Rattle.lists.proofs.ordered_lists.OrderedLists.new.Given as goal

abbrev pub invariant-loop-row : goal.invariant-loop-row
invariant-loop-row l = IsFilled l.rows l.row-index l.table
