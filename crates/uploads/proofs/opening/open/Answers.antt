use Rattle.uploads.specs.Answers.{taken_of}
use Rattle.uploads.specs.Calls.{call_of}
use Rattle.uploads.proofs.Deciding.{answered, space_in_declaration}
use Rattle.uploads.proofs.opening.open.Goals as goal

pub returns-clause-law : goal.returns-clause-law
returns-clause-law c = answered (call_of c.args.call) (taken_of c.answer.result) c.answer.ensures

pub returns-clause-sample : goal.returns-clause-sample
returns-clause-sample c = space_in_declaration
