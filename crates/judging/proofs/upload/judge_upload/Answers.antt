use Rattle.std.proofs.Common.{rules, ◌∷◌, ◌++◌, [], map, refl, sym, ap, ◌∙◌, arith, append-nil}
use Rattle.std.proofs.lemmas.List.{map-append}
use Rattle.std.specs.Prelude.{is_some}
use Rattle.records.specs.Reading.{record_of}
use Rattle.faults.proofs.Reports.{holds}
use Rattle.judging.proofs.Uploads.{judged_more, parted, one_more_fits, passes, fails, tells_of}
use Rattle.judging.proofs.upload.judge_upload.Goals as goal

pub overflow_add-judged : goal.overflow_add-judged
overflow_add-judged g c =
    let few = one_more_fits c.args.upload c.loop-record.record-iterator c.loop-record.yielded c.records-record-items.ensures.records c.records-record-items.ensures.upload c.into_iter-record-iterator.ensures.into_iter_gives c.loop-record.yielded_by c.in-Some.record _ c.in-Some.ensures.steps in
    omega (arith, few, c.loop-record.invariant.counted)

pub overflow_add-accepted : goal.overflow_add-accepted
overflow_add-accepted g c =
    let few = one_more_fits c.args.upload c.loop-record.record-iterator c.loop-record.yielded c.records-record-items.ensures.records c.records-record-items.ensures.upload c.into_iter-record-iterator.ensures.into_iter_gives c.loop-record.yielded_by c.in-Some.record _ c.in-Some.ensures.steps in
    omega (arith, few, c.loop-record.invariant.counted, c.loop-record.invariant.few)

pub loop-record-preserved-then-is_none : goal.loop-record-preserved-then-is_none
loop-record-preserved-then-is_none g c =
    rw (map-append record_of c.loop-record.yielded (c.in-Some.record ∷ []))
    (judged_more _ _ (record_of c.in-Some.record) _ _ _ _ _ _ c.judge_record.ensures.value (passes _ _ (ap is_some (sym c.verdict.ensures) ∙ c.is_none.ensures) c.if-is_none.true) c.loop-record.invariant)

pub loop-record-preserved : goal.loop-record-preserved
loop-record-preserved g c =
    rw (map-append record_of c.loop-record.yielded (c.in-Some.record ∷ []))
    (judged_more _ _ (record_of c.in-Some.record) _ _ _ _ _ _ c.judge_record.ensures.value (fails _ _ (ap is_some (sym c.verdict.ensures) ∙ c.is_none.ensures) c.if-is_none.false) c.loop-record.invariant)

pub returns : goal.returns
returns g c =
    let h = holds {start = c.new-report.result} (rw c.new-report.ensures (omega arith)) (rw c.new-report.ensures refl) c.loop-record.invariant.told in
    tells_of _ c.args.upload.file.bytes.now (map record_of c.loop-record.yielded) _ _ _ c.args.upload.length
    (λ l. parted c.args.upload c.loop-record.record-iterator c.loop-record.yielded c.records-record-items.ensures.records c.records-record-items.ensures.upload c.into_iter-record-iterator.ensures.into_iter_gives c.loop-record.yielded_by l
    ∙ ap (λ k. map record_of c.loop-record.yielded ++ k) c.in-None.ensures.steps.gives.0 ∙ append-nil (map record_of c.loop-record.yielded))
    (search (rules, h.lent)) c.loop-record.invariant.counted c.loop-record.invariant.passed (c.count.ensures ∙ h.count)
