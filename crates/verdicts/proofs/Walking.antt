-- A walk over the orders of a record. Assumes nothing.
use Rattle.std.proofs.Common.{◌≡◌, ℕ, ◌+◌, ◌<◌, ◌≤◌, Option, List, [], ◌∷◌, ◌++◌, length, sym, ap, ◌∙◌, subst, arith, length-append}
use Rattle.std.proofs.lemmas.List.Elements.{All-head, All-tail}
use Rattle.std.proofs.lemmas.List.Sums.{fold-append}
use Rattle.std.specs.List.{All}
use Rattle.grammar.specs.declared.states.Segment.{Segment}
use Rattle.grammar.specs.declared.states.Segment.TheVariants.{Order}
use Rattle.records.specs.Records.{Written, Part, Record, order_parts, or_unordered}
use Rattle.faults.proofs.Reports.{told_push}
use Rattle.faults.specs.Along.{along}
use Rattle.faults.specs.Reports.{told_one, told}
use Rattle.faults.specs.declared.report.Fault.{Fault}
use Rattle.faults.specs.declared.report.Report.{Report}
use Rattle.faults.specs.declared.rules.Rule.{Rule}
use Rattle.rules.specs.Views.{View}
use Rattle.verdicts.specs.Sights.{Setting, view, AtOrders}
use Rattle.verdicts.specs.Walks.{part_walk, order_walk}
use Rattle.records.specs.Orderly.{fields_rise, part_rises, parts_rise, Orderly, Stands, WellFormed}

-- behind what rises there is a place further on
fields_end : (a : ℕ) (ws : List Written) (k : ℕ → Type 0) → fields_rise a ws k → (b : ℕ) × (a ≤ b) × k b
fields_end a [] k h = (a, omega arith, h)
fields_end a (w ∷ ws) k h = let e = fields_end (w.place + 6) ws k h.1 in (e.0, omega (arith, e.1, h.0), e.2)

part_end : (a : ℕ) (p : Part) (k : ℕ → Type 0) → part_rises a p k → (b : ℕ) × (a + 1 ≤ b) × k b
part_end a p k h = let e = fields_end (p.tag + 1) p.fields k h.1 in (e.0, omega (arith, e.1, h.0), e.2)

-- so where a part stands there are as many places before it as there are parts, and one behind it before the end
parts_end : (a : ℕ) (ps : List Part) (k : ℕ → Type 0) → parts_rise a ps k → (b : ℕ) × (a + length ps ≤ b) × k b
parts_end a [] k h = (a, omega arith, h)
parts_end a (p ∷ ps) k h =
    let e = part_end a p _ h in
    let r = parts_end e.0 ps k e.2 in
    (r.0, omega (arith, e.1, r.1), r.2)

-- the number of an order among the segments is below whatever the place of the end is not above
order_number_in : (a close m : ℕ) (orders front : List Part) (o : Part) (back : List Part) → 2 ≤ a → 2 < m → close ≤ m → parts_rise a orders (λ e. e ≤ close)
    → or_unordered close orders ≡ front ++ (o ∷ back) → 2 + length front < m
order_number_in a close m [] front o back l k c h e = omega (arith, l, k, ap length e, length-append front (o ∷ back))
order_number_in a close m (q ∷ orders) front o back l k c h e =
    let r = parts_end a (q ∷ orders) _ h in
    omega (arith, l, c, r.1, r.2, ap length e, length-append front (o ∷ back))

pub order_number : (x : Record) (front : List Part) (o : Part) (back : List Part) (m : ℕ) → Orderly x → 2 < m → x.close ≤ m → order_parts x ≡ front ++ (o ∷ back) → 2 + length front < m
order_number x front o back m h k c e =
    let a = part_end 0 x.header _ h in
    let b = part_end a.0 x.visit _ a.2 in
    order_number_in b.0 x.close m x.orders front o back (omega (arith, a.1, b.1)) k c b.2 e

All_at : {X : Type 0} (P : X → Type 0) (front : List X) (x : X) (back : List X) → All P (front ++ (x ∷ back)) → P x
All_at P [] x back h = All-head P x back h
All_at P (y ∷ front) x back h = All_at P front x back (All-tail P y (front ++ (x ∷ back)) h)

abbrev segment_of_first : List Part → Segment
segment_of_first [] = Order
segment_of_first (p ∷ ps) = p.segment

segment_in : (upload : List ℕ) (close : ℕ) (orders front : List Part) (o : Part) (back : List Part) → All (Stands upload Order) orders → or_unordered close orders ≡ front ++ (o ∷ back) → o.segment ≡ Order
segment_in upload close [] [] o back h e = sym (ap segment_of_first e)
segment_in upload close [] (p ∷ front) o back h e = absurd (omega (arith, ap length e, length-append front (o ∷ back)))
segment_in upload close (q ∷ orders) front o back h e = (All_at (Stands upload Order) front o back (subst (λ ps. All (Stands upload Order) ps) e h)).segment

pub order_segment : (upload : List ℕ) (x : Record) (front : List Part) (o : Part) (back : List Part) → WellFormed upload x → order_parts x ≡ front ++ (o ∷ back) → o.segment ≡ Order
order_segment upload x front o back w e = segment_in upload x.close x.orders front o back w.orders e

-- a walk that has passed the orders before, from start to now
pub record Walked (s : Setting) (n : ℕ) (x : Record) (only : Option Rule) (upload : List ℕ) (before : List Part) (start now : Report) (v : View) (seen : List ℕ) (segment : ℕ) : Type 0 where
  pub sight : AtOrders s x before v
  pub reads : seen ≡ upload
  pub counted : segment ≡ 1 + length before
  pub report : now ≡ told start (along (order_walk s n x only) [] before)

-- an order more
pub walked_more : (s : Setting) (n : ℕ) (x : Record) (only : Option Rule) (upload : List ℕ) (before : List Part) (o : Part) (start now next : Report) (v turned passed : View) (seen seen_next : List ℕ) (segment : ℕ)
    → Walked s n x only upload before start now v seen segment
    → turned ≡ view s x before o.fields → AtOrders s x (before ++ o ∷ []) passed → seen_next ≡ seen → next ≡ told now (part_walk only turned n (segment + 1) o)
    → Walked s n x only upload (before ++ o ∷ []) start next passed seen_next (segment + 1)
walked_more s n x only upload before o start now next v turned passed seen seen_next segment w t p u e = record {
  sight = p;
  reads = u ∙ w.reads;
  counted = omega (arith, w.counted, length-append before (o ∷ []));
  report =
      let k : segment + 1 ≡ 2 + length before = omega (arith, w.counted) in
      told_push start (order_walk s n x only) before o w.report (e ∙ ap (λ m. told now (part_walk only turned n m o)) k ∙ ap (λ z. told now (part_walk only z n (2 + length before) o)) t);
}

pub told_on : (start now : Report) (fs gs : List Fault) → now ≡ told (told start fs) gs → now ≡ told start (fs ++ gs)
told_on start now fs gs e = e ∙ sym (fold-append told_one start fs gs)
