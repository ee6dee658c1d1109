-- What is read of a record stands in order and in the upload; and, for a type to carry it, a lemma that it does so in one way at most. Assumes nothing.
--     fields_rise a ws k      the fields stand one behind the other, the first of them at the place a or behind it, and k holds of where the last one ends at the earliest
--     part_rises a p k        so do the tag of the part and its fields
--     parts_rise a ps k       and one part behind the other
--     Orderly r               and the whole record, up to </MB>
--     Stands upload g p       the part is of the segment g, and its fields lie in the upload
--     WellFormed upload r     the record is in order, its parts are what they are called and lie in the upload, and so does its end
--     Orderly-prop            a record is in order in one way at most
use Rattle.std.specs.Prelude.{◌≡◌, ℕ, ◌+◌, ◌≤◌, List, [], ◌∷◌, length}
use Rattle.std.specs.List.{All}
use Rattle.std.specs.Coded.{×_prop, le_prop}
use Rattle.grammar.specs.declared.states.Segment.{Segment}
use Rattle.grammar.specs.declared.states.Segment.TheVariants.{Header, Visit, Order}
use Rattle.records.specs.Records.{Written, Part, Record, Lies}

abbrev pub fields_rise : ℕ → List Written → (ℕ → Type 0) → Type 0
fields_rise a [] k = k a
fields_rise a (w ∷ ws) k = (a ≤ w.place) × fields_rise (w.place + 6) ws k

abbrev pub part_rises : ℕ → Part → (ℕ → Type 0) → Type 0
part_rises a p k = (a ≤ p.tag) × fields_rise (p.tag + 1) p.fields k

abbrev pub parts_rise : ℕ → List Part → (ℕ → Type 0) → Type 0
parts_rise a [] k = k a
parts_rise a (p ∷ ps) k = part_rises a p (λ b. parts_rise b ps k)

abbrev pub Orderly : Record → Type 0
Orderly r = part_rises 0 r.header (λ a. part_rises a r.visit (λ b. parts_rise b r.orders (λ e. e ≤ r.close)))

pub record Stands (upload : List ℕ) (g : Segment) (p : Part) : Type 0 where
  pub segment : p.segment ≡ g
  pub fields : All (Lies upload) p.fields

pub record WellFormed (upload : List ℕ) (r : Record) : Type 0 where
  pub order : Orderly r
  pub header : Stands upload Header r.header
  pub visit : Stands upload Visit r.visit
  pub orders : All (Stands upload Order) r.orders
  pub within : r.close ≤ length upload

fields_rise-prop : (a : ℕ) (ws : List Written) (k : ℕ → Type 0) → ((b : ℕ) → IsProp (k b)) → IsProp (fields_rise a ws k)
fields_rise-prop a [] k h = h a
fields_rise-prop a (w ∷ ws) k h = ×_prop le_prop (fields_rise-prop (w.place + 6) ws k h)

part_rises-prop : (a : ℕ) (p : Part) (k : ℕ → Type 0) → ((b : ℕ) → IsProp (k b)) → IsProp (part_rises a p k)
part_rises-prop a p k h = ×_prop le_prop (fields_rise-prop (p.tag + 1) p.fields k h)

parts_rise-prop : (a : ℕ) (ps : List Part) (k : ℕ → Type 0) → ((b : ℕ) → IsProp (k b)) → IsProp (parts_rise a ps k)
parts_rise-prop a [] k h = h a
parts_rise-prop a (p ∷ ps) k h = part_rises-prop a p (λ b. parts_rise b ps k) (λ b. parts_rise-prop b ps k h)

pub Orderly-prop : (r : Record) → IsProp (Orderly r)
Orderly-prop r =
    part_rises-prop 0 r.header (λ a. part_rises a r.visit (λ b. parts_rise b r.orders (λ e. e ≤ r.close)))
    (λ a. part_rises-prop a r.visit (λ b. parts_rise b r.orders (λ e. e ≤ r.close))
    (λ b. parts_rise-prop b r.orders (λ e. e ≤ r.close) (λ e. le_prop)))
