use Rattle.grammar.proofs.Tested.{test_from_lawful}
use Rattle.reader.proofs.Uniques.{lawful_of}
use Rattle.reader.proofs.structure.check_structure.Goals as goal

pub invariant_of-result : goal.invariant_of-result
invariant_of-result c = record { lawful = test_from_lawful c.args.upload.now (lawful_of c.in_ok-read_whole.ensures.law) }
