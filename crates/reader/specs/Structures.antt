-- What the first pass answers. Assumes nothing.
--     structure_of r     the answer without the upload that it carries: lawful, or the refusal
use Rattle.std.specs.Prelude.{Result, Ok, Err}
use Rattle.grammar.specs.declared.lawful.LawfulUpload.{LawfulUpload}
use Rattle.reader.specs.declared.faults.Refusal.{Refusal}

abbrev pub structure_of : Result LawfulUpload Refusal → Result (Unit {0}) Refusal
structure_of (Ok u) = Ok (tt {0})
structure_of (Err r) = Err r
