use Rattle.std.proofs.Common.{◌∷◌, [], ◌++◌, map, refl, ap, ◌∙◌, arith, append-nil}
use Rattle.std.proofs.lemmas.Bool.Decides.{nat_tests}
use Rattle.std.proofs.lemmas.List.{map-append}
use Rattle.records.specs.Reading.{written_of, part_upload}
use Rattle.records.proofs.Yielded.{fields_so_far, field_lies}
use Rattle.cells.proofs.Filling.{passed, noted, filled}
use Rattle.cells.proofs.cells.Cells.fill.Goals as goal

pub overflow_add-cell : goal.overflow_add-cell
overflow_add-cell c = let l = (field_lies (part_upload c.args.part.now) c.args.part.now c.fields-field-items.result c.into_iter-field-iterator.result c.loop-field.field-iterator c.next.new.self c.loop-field.yielded c.in-Some.field refl c.fields-field-items.ensures.fields c.fields-field-items.ensures.upload c.into_iter-field-iterator.ensures.into_iter_gives c.loop-field.yielded_by c.in-Some.ensures.steps).within in grind (arith, nat_tests, l, c.is_empty.ensures, c.if-not-is_empty.true)

pub loop-field-preserved-then-not-is_empty : goal.loop-field-preserved-then-not-is_empty
loop-field-preserved-then-not-is_empty c =
    rw (map-append written_of c.loop-field.yielded (c.in-Some.field ∷ [])) (noted _ _ _ _ _ _ (written_of c.in-Some.field) (grind (arith, nat_tests, c.is_empty.ensures, c.if-not-is_empty.true)) (field_lies (part_upload c.args.part.now) c.args.part.now c.fields-field-items.result c.into_iter-field-iterator.result c.loop-field.field-iterator c.next.new.self c.loop-field.yielded c.in-Some.field refl c.fields-field-items.ensures.fields c.fields-field-items.ensures.upload c.into_iter-field-iterator.ensures.into_iter_gives c.loop-field.yielded_by c.in-Some.ensures.steps) c.put.ensures.upload c.put.ensures.cells c.loop-field.invariant)

pub loop-field-preserved : goal.loop-field-preserved
loop-field-preserved c = rw (map-append written_of c.loop-field.yielded (c.in-Some.field ∷ [])) (passed _ _ _ _ _ (written_of c.in-Some.field) (grind (arith, nat_tests, c.is_empty.ensures, c.if-not-is_empty.false)) c.loop-field.invariant)

pub returns : goal.returns
returns c =
    let so = fields_so_far c.args.part.now c.fields-field-items.result c.into_iter-field-iterator.result c.loop-field.field-iterator c.loop-field.yielded c.fields-field-items.ensures.fields c.fields-field-items.ensures.upload c.into_iter-field-iterator.ensures.into_iter_gives c.loop-field.yielded_by in
    filled _ _ _ _ (so.all ∙ ap (λ k. map written_of c.loop-field.yielded ++ k) c.in-None.ensures.steps.gives.0 ∙ append-nil (map written_of c.loop-field.yielded)) c.loop-field.invariant
