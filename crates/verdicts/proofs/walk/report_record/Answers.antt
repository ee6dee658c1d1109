use Rattle.std.proofs.Common.{◌^◌, [], ◌∷◌, ◌++◌, map, sym, ap, ◌∙◌, arith, append-nil}
use Rattle.std.proofs.lemmas.List.{map-append}
use Rattle.records.specs.Reading.{part_of, part_upload, record_of}
use Rattle.records.proofs.Yielded.{orders_so_far}
use Rattle.verdicts.specs.Sights.{setting}
use Rattle.verdicts.specs.Walks.{head_walk}
use Rattle.verdicts.proofs.Walking.{order_number, order_segment, walked_more, told_on}
use Rattle.verdicts.proofs.walk.report_record.Goals as goal

pub overflow_add-segment-in-loop-order : goal.overflow_add-segment-in-loop-order
overflow_add-segment-in-loop-order g c =
    let so = orders_so_far c.args.record.now c.orders-order-items.result c.into_iter-order-iterator.result c.loop-order.order-iterator c.loop-order.yielded c.orders-order-items.ensures.orders c.orders-order-items.ensures.upload c.into_iter-order-iterator.ensures.into_iter_gives c.loop-order.yielded_by in
    let k = order_number (record_of c.args.record.now) (map part_of c.loop-order.yielded) (part_of c.in-Some.order) _ (2 ^ 64) c.args.record.now.in_order.stands.order (omega arith) (omega (arith, c.args.record.now.in_order.stands.within, c.args.record.now.in_order.fits)) (so.all ∙ ap (λ ps. map part_of c.loop-order.yielded ++ ps) c.in-Some.ensures.steps.gives) in
    omega (arith, k, c.loop-order.invariant.counted)

pub turn_to-requires-clause-upload : goal.turn_to-requires-clause-upload
turn_to-requires-clause-upload g c =
    let so = orders_so_far c.args.record.now c.orders-order-items.result c.into_iter-order-iterator.result c.loop-order.order-iterator c.loop-order.yielded c.orders-order-items.ensures.orders c.orders-order-items.ensures.upload c.into_iter-order-iterator.ensures.into_iter_gives c.loop-order.yielded_by in
    c.in-Some.ensures.steps.reads ∙ so.upload ∙ c.args.record.now.in_order.reads ∙ sym c.loop-order.invariant.reads

pub turn_to-requires-clause-order : goal.turn_to-requires-clause-order
turn_to-requires-clause-order g c =
    let so = orders_so_far c.args.record.now c.orders-order-items.result c.into_iter-order-iterator.result c.loop-order.order-iterator c.loop-order.yielded c.orders-order-items.ensures.orders c.orders-order-items.ensures.upload c.into_iter-order-iterator.ensures.into_iter_gives c.loop-order.yielded_by in
    order_segment (part_upload c.args.record.now.header) (record_of c.args.record.now) (map part_of c.loop-order.yielded) (part_of c.in-Some.order) _ c.args.record.now.in_order.stands (so.all ∙ ap (λ ps. map part_of c.loop-order.yielded ++ ps) c.in-Some.ensures.steps.gives)

pub loop-order-preserved : goal.loop-order-preserved
loop-order-preserved g c =
    rw (map-append part_of c.loop-order.yielded (c.in-Some.order ∷ []))
    (let w = c.loop-order.invariant in
    let t = c.turn_to.ensures.sight _ _ _ w.sight in
    walked_more _ _ _ _ _ _ (part_of c.in-Some.order) _ _ _ _ _ _ _ _ _ w t (c.pass.ensures.sight _ _ _ (part_of c.in-Some.order) t) (ap (λ u. u.now) (c.pass.ensures.upload ∙ c.turn_to.ensures.upload)) c.report_part-in-loop-order.ensures)

pub returns : goal.returns
returns g c =
    let so = orders_so_far c.args.record.now c.orders-order-items.result c.into_iter-order-iterator.result c.loop-order.order-iterator c.loop-order.yielded c.orders-order-items.ensures.orders c.orders-order-items.ensures.upload c.into_iter-order-iterator.ensures.into_iter_gives c.loop-order.yielded_by in
    let all = so.all ∙ ap (λ k. map part_of c.loop-order.yielded ++ k) c.in-None.ensures.steps.gives.0 ∙ append-nil (map part_of c.loop-order.yielded) in
    rw all (told_on c.args.report.now c.loop-order.report (head_walk (setting g.L.CodeLists.meaning c.args.head.now.today c.args.head.now.lists.now) c.args.number (record_of c.args.record.now) c.args.only) _ c.loop-order.invariant.report)
