-- The record behind <REC> is well formed. Assumes nothing.
use Rattle.std.proofs.Common.{◌≡◌, ℕ, ◌+◌, ◌^◌, ◌<◌, ◌≤◌, Bool, true, false, if◌then◌else◌, List, [], ◌∷◌, length, sym, refl, ◌∙◌, subst, arith}
use Rattle.std.specs.List.{All}
use Rattle.std.proofs.lemmas.List.Elements.{All-nil, All-cons, All-head, All-tail}
use Rattle.grammar.specs.Grammar.{opens_header, closes_header, opens_body, opens_visit, closes_visit, opens_order, closes_order, closes_body, Rest, skips, turns, holds}
use Rattle.grammar.specs.Items.{Item, structure, field, items}
use Rattle.grammar.specs.declared.states.Segment.{Segment}
use Rattle.grammar.specs.declared.states.Segment.TheVariants.{Header, Visit, Order}
use Rattle.grammar.specs.declared.states.State.TheVariants.{Record as InRecord, Within, Headed, Body, Orders}
use Rattle.grammar.specs.declared.states.Element.TheVariants.{Mb, Mb2}
use Rattle.grammar.specs.declared.states.Tag.TheVariants.{Open, Close}
use Rattle.cursor.specs.Left.{left}
use Rattle.cursor.specs.declared.cursor.Cursor.{Cursor}
use Rattle.records.specs.Records.{Part, Lies, begins, fields_ahead, part_ahead, orders_ahead, close_ahead, record_ahead, Follows}
use Rattle.records.specs.Parts.{part_upload, read_of, InOrder}
use Rattle.records.specs.declared.part.OpenPart.{OpenPart}
use Rattle.records.specs.Orderly.{fields_rise, part_rises, parts_rise, Orderly, Stands, WellFormed}
use Rattle.records.proofs.Lying.{ItemLies, left_lies}

-- what has to follow a place among the orders, among the fields before them, before the visit, and among the header's fields
abbrev OrdersRise : ℕ → List Item → Type 0
OrdersRise a is = parts_rise a (orders_ahead is) (λ e. e ≤ close_ahead is)

abbrev FieldsRise : ℕ → List Item → Type 0
FieldsRise a is = fields_rise a (fields_ahead is) (λ b. OrdersRise b is)

abbrev VisitRises : ℕ → List Item → Type 0
VisitRises a is = part_rises a (part_ahead Visit is) (λ b. OrdersRise b is)

abbrev HeaderRises : ℕ → List Item → Type 0
HeaderRises a is = fields_rise a (fields_ahead is) (λ b. VisitRises b is)

mutual
  orders : {w : List ℕ} (a at : ℕ) (p : Rest Orders w) → a ≤ at → OrdersRise a (items at p)
  orders a at (skips h p) l = orders a (at + 1) p (omega arith)
  orders a at (turns opens_order p) l = (l, in_order (at + 1) (at + 5) p (omega arith))
  orders a at (turns closes_body p) l = l

  in_order : {w : List ℕ} (a at : ℕ) (p : Rest (Within Order) w) → a ≤ at → FieldsRise a (items at p)
  in_order a at (skips h p) l = in_order a (at + 1) p (omega arith)
  in_order a at (turns closes_order p) l = orders a (at + 6) p (omega arith)
  in_order a at (holds {v = v} d h p) l = (l, in_order (at + 6) (at + 5 + length v + 6) p (omega arith))

in_visit : {w : List ℕ} (a at : ℕ) (p : Rest (Within Visit) w) → a ≤ at → FieldsRise a (items at p)
in_visit a at (skips h p) l = in_visit a (at + 1) p (omega arith)
in_visit a at (turns closes_visit p) l = orders a (at + 6) p (omega arith)
in_visit a at (holds {v = v} d h p) l = (l, in_visit (at + 6) (at + 5 + length v + 6) p (omega arith))

in_body : {w : List ℕ} (a at : ℕ) (p : Rest Body w) → a ≤ at → VisitRises a (items at p)
in_body a at (skips h p) l = in_body a (at + 1) p (omega arith)
in_body a at (turns opens_visit p) l = (l, in_visit (at + 1) (at + 5) p (omega arith))

headed : {w : List ℕ} (a at : ℕ) (p : Rest Headed w) → a ≤ at → VisitRises a (items at p)
headed a at (skips h p) l = headed a (at + 1) p (omega arith)
headed a at (turns opens_body p) l = in_body a (at + 4) p (omega arith)

in_header : {w : List ℕ} (a at : ℕ) (p : Rest (Within Header) w) → a ≤ at → HeaderRises a (items at p)
in_header a at (skips h p) l = in_header a (at + 1) p (omega arith)
in_header a at (turns closes_header p) l = headed a (at + 6) p (omega arith)
in_header a at (holds {v = v} d h p) l = (l, in_header (at + 6) (at + 5 + length v + 6) p (omega arith))

in_record : {w : List ℕ} (at : ℕ) (p : Rest InRecord w) → Orderly (record_ahead (items at p))
in_record at (skips h p) = in_record (at + 1) p
in_record at (turns opens_header p) = (omega arith, in_header (at + 1) (at + 5) p (omega arith))

-- fields of items that lie in the upload lie there too
module _ (upload : List ℕ) where
  abbrev pub AllLie : List Item → Type 0
  AllLie is = All (ItemLies upload) is

  fields_lie : (is : List Item) → AllLie is → All (Lies upload) (fields_ahead is)
  fields_lie [] h = All-nil (Lies upload)
  fields_lie (structure t at ∷ is) h = All-nil (Lies upload)
  fields_lie (field i at v ∷ is) h =
      All-cons (Lies upload) _ _ (All-head (ItemLies upload) (field i at v) is h) (fields_lie is (All-tail (ItemLies upload) (field i at v) is h))

  either : (g : Segment) (b : Bool) (p q : Part) → Stands upload g p → Stands upload g q → Stands upload g (if b then p else q)
  either g true p q h k = h
  either g false p q h k = k

  part_stands : (g : Segment) (is : List Item) → AllLie is → Stands upload g (part_ahead g is)
  part_stands g [] h = record { segment = refl; fields = All-nil (Lies upload) }
  part_stands g (x ∷ is) h =
      let behind = All-tail (ItemLies upload) x is h in
      either g (begins g x) _ _ (record { segment = refl; fields = fields_lie is behind }) (part_stands g is behind)

  orders_stand : (is : List Item) → AllLie is → All (Stands upload Order) (orders_ahead is)
  orders_stand [] h = All-nil (Stands upload Order)
  orders_stand (structure (Open Mb2) at ∷ is) h =
      let behind = All-tail (ItemLies upload) (structure (Open Mb2) at) is h in
      All-cons (Stands upload Order) _ _ (record { segment = refl; fields = fields_lie is behind }) (orders_stand is behind)
  orders_stand (structure (Close Mb) at ∷ is) h = All-nil (Stands upload Order)
  orders_stand (x ∷ is) h = orders_stand is (All-tail (ItemLies upload) x is h)

  close_within : (is : List Item) → AllLie is → close_ahead is ≤ length upload
  close_within [] h = omega arith
  close_within (structure (Close Mb) at ∷ is) h = All-head (ItemLies upload) (structure (Close Mb) at) is h
  close_within (x ∷ is) h = close_within is (All-tail (ItemLies upload) x is h)

  stands : (is : List Item) → Orderly (record_ahead is) → AllLie is → WellFormed upload (record_ahead is)
  stands is o h = record {
    order = o;
    header = part_stands Header is h;
    visit = part_stands Visit is h;
    orders = orders_stand is h;
    within = close_within is h;
  }

  pub record_stands : {w : List ℕ} (at : ℕ) (p : Rest InRecord w) → AllLie (items at p) → WellFormed upload (record_ahead (items at p))
  record_stands at p h = stands (items at p) (in_record at p) h

pub well_formed : (c : Cursor) → Follows InRecord (left c) → WellFormed c.upload.now (record_ahead (left c))
well_formed c f =
    stands c.upload.now (left c) (subst (λ is. Orderly (record_ahead is)) (sym f.read) (in_record f.at f.path)) (left_lies c)

-- so is what is opened there, in its upload
pub parts_in_order : (from : Cursor) (header visit : OpenPart) → Follows InRecord (left from) → read_of header visit ≡ record_ahead (left from)
    → part_upload header ≡ from.upload.now → part_upload visit ≡ from.upload.now → length from.upload.now < 2 ^ 64 → InOrder header visit
parts_in_order from header visit f e h v l = record {
  reads = v ∙ sym h;
  stands = subst (λ u. WellFormed u (read_of header visit)) (sym h) (subst (WellFormed from.upload.now) (sym e) (well_formed from f));
  fits = subst (λ u. length u < 2 ^ 64) (sym h) l;
}
