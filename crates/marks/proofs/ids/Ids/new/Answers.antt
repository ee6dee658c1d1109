use Rattle.std.proofs.Math.Bool.{and-false}
use Rattle.marks.specs.Ids.{is_id, row}
use Rattle.marks.proofs.Unmarked.{unmarked}
use Rattle.marks.proofs.ids.Ids.new.Goals as goal

pub returns : goal.returns
returns c = λ i. rw (unmarked 2600 (row i)) (and-false (is_id i))
