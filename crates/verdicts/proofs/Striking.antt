-- Telling what the written fields of a segment break. Assumes nothing.
use Rattle.std.proofs.Common.{◌≡◌, ℕ, true, false, ◌&&◌, ◌||◌, refl, sym, ap, ◌∙◌, arith, List, [], ◌∷◌, ◌++◌, Some, None, Option}
use Rattle.std.proofs.lemmas.List.Folds.{list_any-append}
use Rattle.std.specs.List.{list_any, flat_map}
use Rattle.grammar.specs.Grammar.{Id}
use Rattle.grammar.specs.declared.states.FieldId.{FieldId}
use Rattle.grammar.specs.declared.states.Segment.{Segment}
use Rattle.records.specs.Records.{Written}
use Rattle.cells.specs.Filled.{is_written}
use Rattle.marks.specs.Ids.{same_id, has}
use Rattle.marks.specs.declared.ids.Ids.{Ids}
use Rattle.faults.specs.Along.{given, along}
use Rattle.faults.specs.Reports.{told}
use Rattle.faults.specs.declared.report.Report.{Report}
use Rattle.faults.specs.declared.rules.Rule.{Rule}
use Rattle.faults.proofs.Reports.{told_push}
use Rattle.fields.specs.Fields.{field_at}
use Rattle.rules.specs.Places.{rules_at}
use Rattle.rules.specs.Views.{View}
use Rattle.verdicts.specs.Faults.{again, offends, fault, place_of, striking}
use Rattle.verdicts.specs.Walks.{offence, offences, striking_any}

-- the IDs of the fields ws that are written are marked
pub record Marked (ws : List Written) (ids : Ids) : Type 0 where
  pub each : (i : FieldId) → Id i → has ids i ≡ list_any (λ e. is_written e && same_id e.id i) ws

-- the fields ws are judged, and what they break is told
pub record Struck (only : Option Rule) (v : View) (g : Segment) (n k : ℕ) (ws : List Written) (before now : Report) (ids : Ids) : Type 0 where
  pub report : now ≡ told before (along (striking_any only v g n k) [] ws)
  pub marked : Marked ws ids

-- only a field with a value breaks a rule where it is written
struck_by : (rs : List Rule) (v : View) (g : Segment) (n k : ℕ) (ws : List Written) (w : Written) → is_written w ≡ true
    → flat_map (offence v g n k (again ws w) w) rs ≡ flat_map (λ r. striking r v g n k ws w) rs
struck_by [] v g n k ws w l = refl
struck_by (r ∷ rs) v g n k ws w l =
    ap (λ b. given (b && offends r v g (again ws w) w) (fault n k r w.id (place_of r w)) ++ flat_map (offence v g n k (again ws w) w) rs) (sym l)
    ∙ ap (λ fs. striking r v g n k ws w ++ fs) (struck_by rs v g n k ws w l)

unstruck_by : (rs : List Rule) (v : View) (g : Segment) (n k : ℕ) (ws : List Written) (w : Written) → is_written w ≡ false → [] ≡ flat_map (λ r. striking r v g n k ws w) rs
unstruck_by [] v g n k ws w l = refl
unstruck_by (r ∷ rs) v g n k ws w l =
    unstruck_by rs v g n k ws w l
    ∙ ap (λ b. given (b && offends r v g (again ws w) w) (fault n k r w.id (place_of r w)) ++ flat_map (λ q. striking q v g n k ws w) rs) (sym l)

struck : (only : Option Rule) (v : View) (g : Segment) (n k : ℕ) (ws : List Written) (w : Written) → is_written w ≡ true → offences only v g n k (again ws w) w ≡ striking_any only v g n k ws w
struck (Some r) v g n k ws w l = ap (λ b. given (b && offends r v g (again ws w) w) (fault n k r w.id (place_of r w))) (sym l)
struck None v g n k ws w l = struck_by (rules_at (field_at g w.id)) v g n k ws w l

unstruck : (only : Option Rule) (v : View) (g : Segment) (n k : ℕ) (ws : List Written) (w : Written) → is_written w ≡ false → [] ≡ striking_any only v g n k ws w
unstruck (Some r) v g n k ws w l = ap (λ b. given (b && offends r v g (again ws w) w) (fault n k r w.id (place_of r w))) (sym l)
unstruck None v g n k ws w l = unstruck_by (rules_at (field_at g w.id)) v g n k ws w l

-- an ID more
marked_more : (ws : List Written) (w : Written) (ids more : Ids) → is_written w ≡ true → ((i : FieldId) → Id i → has more i ≡ (has ids i || same_id w.id i)) → Marked ws ids → Marked (ws ++ w ∷ []) more
marked_more ws w ids more l m s = record { each = λ i h. rw (m i h, s.each i h, list_any-append (λ e. is_written e && same_id e.id i) ws (w ∷ []), l) (grind (arith)) }

marked_same : (ws : List Written) (w : Written) (ids : Ids) → is_written w ≡ false → Marked ws ids → Marked (ws ++ w ∷ []) ids
marked_same ws w ids l s = record { each = λ i h. rw (s.each i h, list_any-append (λ e. is_written e && same_id e.id i) ws (w ∷ []), l) (grind (arith)) }

-- a field more, with a value
pub struck_written : (only : Option Rule) (v : View) (g : Segment) (n k : ℕ) (ws : List Written) (w : Written) (before now next : Report) (ids more : Ids) → Id w.id → is_written w ≡ true
    → next ≡ told now (offences only v g n k (has ids w.id) w) → ((i : FieldId) → Id i → has more i ≡ (has ids i || same_id w.id i))
    → Struck only v g n k ws before now ids → Struck only v g n k (ws ++ w ∷ []) before next more
struck_written only v g n k ws w before now next ids more d l e m s = record {
  report = told_push before (striking_any only v g n k) ws w s.report (e ∙ ap (λ b. told now (offences only v g n k b w)) (s.marked.each w.id d) ∙ ap (λ fs. told now fs) (struck only v g n k ws w l));
  marked = marked_more ws w ids more l m s.marked;
}

-- or without one
pub struck_empty : (only : Option Rule) (v : View) (g : Segment) (n k : ℕ) (ws : List Written) (w : Written) (before now : Report) (ids : Ids) → is_written w ≡ false
    → Struck only v g n k ws before now ids → Struck only v g n k (ws ++ w ∷ []) before now ids
struck_empty only v g n k ws w before now ids l s = record {
  report = told_push before (striking_any only v g n k) ws w s.report (ap (λ fs. told now fs) (unstruck only v g n k ws w l));
  marked = marked_same ws w ids l s.marked;
}
