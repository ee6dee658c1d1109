use Rattle.std.proofs.Common.{rules, ◌∷◌, ◌++◌, [], map, refl, sym, ap, ◌∙◌, arith, append-nil}
use Rattle.std.proofs.lemmas.List.{map-append}
use Rattle.grammar.proofs.Tested.{lawful_from_test}
use Rattle.records.specs.Reading.{record_of}
use Rattle.faults.proofs.Reports.{holds}
use Rattle.judging.proofs.Uploads.{parted, one_more_fits, passes, fails}
use Rattle.receiving.proofs.Loops.{so_far_none, so_far_more, all_judged}
use Rattle.receiving.proofs.Reading.{read}
use Rattle.receiving.proofs.receive.receive_records.Goals as goal

pub loop-record-init : goal.loop-record-init
loop-record-init g c = so_far_none _ _ _ _ _

pub overflow_add-judged : goal.overflow_add-judged
overflow_add-judged g c =
    let few = one_more_fits c.args.upload c.loop-record.record-iterator c.loop-record.yielded c.records-record-items.ensures.records c.records-record-items.ensures.upload c.into_iter-record-iterator.ensures.into_iter_gives c.loop-record.yielded_by c.in-Some.record _ c.in-Some.ensures.steps in
    omega (arith, few, c.loop-record.invariant.counted)

pub overflow_add-accepted : goal.overflow_add-accepted
overflow_add-accepted g c =
    let few = one_more_fits c.args.upload c.loop-record.record-iterator c.loop-record.yielded c.records-record-items.ensures.records c.records-record-items.ensures.upload c.into_iter-record-iterator.ensures.into_iter_gives c.loop-record.yielded_by c.in-Some.record _ c.in-Some.ensures.steps in
    omega (arith, few, c.loop-record.invariant.counted, c.loop-record.invariant.few)

pub loop-record-preserved-then-is_none : goal.loop-record-preserved-then-is_none
loop-record-preserved-then-is_none g c =
    rw (map-append record_of c.loop-record.yielded (c.in-Some.record ∷ []), c.write.ensures)
    (so_far_more _ _ _ (record_of c.in-Some.record) _ _ _ _ _ _ _ _ _ _ _ c.judge_against-verdict.result c.judge_against-verdict.ensures.judged c.judge_against-verdict.ensures.told
    (passes _ _ c.is_none.ensures c.if-is_none.true) c.loop-record.invariant)

pub loop-record-preserved : goal.loop-record-preserved
loop-record-preserved g c =
    rw (map-append record_of c.loop-record.yielded (c.in-Some.record ∷ []), c.write.ensures)
    (so_far_more _ _ _ (record_of c.in-Some.record) _ _ _ _ _ _ _ _ _ _ _ c.judge_against-verdict.result c.judge_against-verdict.ensures.judged c.judge_against-verdict.ensures.told
    (fails _ _ c.is_none.ensures c.if-is_none.false) c.loop-record.invariant)

pub returns-clause-read : goal.returns-clause-read
returns-clause-read g c = read c.args.upload.file.bytes.now (λ l m. sym (c.records-record-items.ensures.records l) ∙ c.records-record-items.ensures.records m)

pub returns-clause-judged : goal.returns-clause-judged
returns-clause-judged g c =
    let bs = c.args.upload.file.bytes.now in
    let h = holds {start = c.new-report.result} (rw c.new-report.ensures (omega arith)) (rw c.new-report.ensures refl) c.loop-record.invariant.told in
    all_judged _ _ bs (lawful_from_test bs c.args.upload.file.lawful) (map record_of c.loop-record.yielded) _ _ _ _ _ _ _ _ _ _ _ c.args.upload.length
    (λ l. parted c.args.upload c.loop-record.record-iterator c.loop-record.yielded c.records-record-items.ensures.records c.records-record-items.ensures.upload c.into_iter-record-iterator.ensures.into_iter_gives c.loop-record.yielded_by l
    ∙ ap (λ k. map record_of c.loop-record.yielded ++ k) c.in-None.ensures.steps.gives.0 ∙ append-nil (map record_of c.loop-record.yielded))
    c.loop-record.invariant (search (rules, h.lent)) (c.count.ensures ∙ h.count)
