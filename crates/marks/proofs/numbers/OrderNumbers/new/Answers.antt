use Rattle.marks.proofs.Unmarked.{unmarked}
use Rattle.marks.proofs.numbers.OrderNumbers.new.Goals as goal

pub returns : goal.returns
returns c = unmarked 1000
