use Rattle.std.proofs.lemmas.Result.{IfOk-weaker, IfErr-weaker}
use Rattle.reader.specs.Readings.{part}
use Rattle.reader.proofs.Readings.{structure_reads, structure_breaks, opening_tag_reads, opening_tag_breaks, nothing_breaks}
use Rattle.reader.proofs.place.Place.tag.Goals as goal

pub returns-in-Structure-clause-reads : goal.returns-in-Structure-clause-reads
returns-in-Structure-clause-reads c =
    IfOk-weaker c.structure.result _ _ (λ r. structure_reads _ _ _ _ c.closes.ensures _ c.in-Structure.ensures (part r.0) r.1.at) c.structure.ensures.reads

pub returns-in-Structure-clause-breaks : goal.returns-in-Structure-clause-breaks
returns-in-Structure-clause-breaks c =
    IfErr-weaker c.structure.result _ _ (structure_breaks _ _ _ _ c.closes.ensures _ c.in-Structure.ensures) c.structure.ensures.missing

pub returns-in-Field-clause-reads : goal.returns-in-Field-clause-reads
returns-in-Field-clause-reads c =
    IfOk-weaker c.opening.result _ _ (λ r. opening_tag_reads _ _ _ _ c.closes.ensures _ c.in-Field.ensures (part r.0) r.1.at) c.opening.ensures.reads

pub returns-in-Field-clause-breaks : goal.returns-in-Field-clause-breaks
returns-in-Field-clause-breaks c =
    IfErr-weaker c.opening.result _ _ (opening_tag_breaks _ _ _ _ c.closes.ensures _ c.in-Field.ensures) c.opening.ensures.missing

pub returns-in-Nothing-clause-breaks : goal.returns-in-Nothing-clause-breaks
returns-in-Nothing-clause-breaks c = nothing_breaks _ _ _ _ c.closes.ensures c.in-Nothing.ensures _ c.fault.ensures
