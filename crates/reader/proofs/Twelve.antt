-- The tags of the structure are these twelve. Assumes nothing.
use Rattle.std.proofs.Common.{refl, arith}
use Rattle.std.specs.List.{Contains}
use Rattle.grammar.specs.declared.states.Element.TheVariants.{Recs, Rec, Msh, Mb, Mb1, Mb2}
use Rattle.grammar.specs.declared.states.Tag.{Tag}
use Rattle.grammar.specs.declared.states.Tag.TheVariants.{Open, Close}
use Rattle.reader.specs.declared.misplaced.TheConstants.{TAGS}

pub among : (t : Tag) → Contains TAGS t
among (Open Recs) = (0, omega arith, refl)
among (Open Rec) = (1, omega arith, refl)
among (Open Msh) = (2, omega arith, refl)
among (Open Mb) = (3, omega arith, refl)
among (Open Mb1) = (4, omega arith, refl)
among (Open Mb2) = (5, omega arith, refl)
among (Close Recs) = (6, omega arith, refl)
among (Close Rec) = (7, omega arith, refl)
among (Close Msh) = (8, omega arith, refl)
among (Close Mb) = (9, omega arith, refl)
among (Close Mb1) = (10, omega arith, refl)
among (Close Mb2) = (11, omega arith, refl)
