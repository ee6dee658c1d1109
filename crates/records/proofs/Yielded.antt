-- What an iterator has given, and what it has still to give. Assumes nothing.
use Rattle.std.proofs.Common.{◌≡◌, ℕ, List, [], ◌∷◌, ◌++◌, map, Some, Option, ap, ◌∙◌, sym, subst}
use Rattle.std.specs.Iterator.{Yields, YieldsFirstBy}
use Rattle.records.specs.Records.{Record, order_parts, Lies}
use Rattle.records.specs.Reading.{GivesField, written_of, fields_left, fields_upload, part_of, part_upload, GivesOrder, orders_left, orders_upload, record_of, GivesRecord, records_left, records_upload}
use Rattle.records.specs.declared.fields.Fields.{Fields}
use Rattle.records.specs.declared.fields.Occurrence.{Occurrence}
use Rattle.records.specs.declared.orders.Orders.{Orders}
use Rattle.records.specs.declared.part.OpenPart.{OpenPart}
use Rattle.records.specs.declared.passing.OpenRecord.{OpenRecord}
use Rattle.records.specs.declared.passing.Records.{Records}

-- of an iterator whose calls give the first of what is left: what was left is what it has given and what is left now
pub yielded : {S A B : Type 0} {steps : S → Option A → S → Type 0} (view : A → B) (rest : S → List B)
    → ((s : S) (r : Option A) (t : S) → steps s r t → YieldsFirstBy view rest s r t)
    → (s t : S) (xs : List A) → Yields steps s xs t → rest s ≡ map view xs ++ rest t
yielded view rest gives s t [] e = ap rest e
yielded view rest gives s t (x ∷ xs) e = gives s _ _ e.1 ∙ ap (λ ks. view x ∷ ks) (yielded view rest gives e.0 t xs e.2)

-- what every call keeps is kept
pub kept : {S A X : Type 0} {steps : S → Option A → S → Type 0} (read : S → X)
    → ((s : S) (r : Option A) (t : S) → steps s r t → read t ≡ read s)
    → (s t : S) (xs : List A) → Yields steps s xs t → read t ≡ read s
kept read keeps s t [] e = sym (ap read e)
kept read keeps s t (x ∷ xs) e = kept read keeps e.0 t xs e.2 ∙ keeps s _ _ e.1

-- a loop over the fields of a part, between two turns
pub record FieldsSoFar (p : OpenPart) (xs : List Occurrence) (now : Fields) : Type 0 where
  pub all : (part_of p).fields ≡ map written_of xs ++ fields_left now
  pub upload : fields_upload now ≡ part_upload p

pub fields_so_far : (p : OpenPart) (begun from now : Fields) (xs : List Occurrence) → fields_left begun ≡ (part_of p).fields → fields_upload begun ≡ part_upload p
    → from ≡ begun → Yields GivesField from xs now → FieldsSoFar p xs now
fields_so_far p begun from now xs e u f y = record {
  all = sym e ∙ sym (ap fields_left f) ∙ yielded {steps = GivesField} written_of fields_left (λ s r t k. k.gives) from now xs y;
  upload = kept {steps = GivesField} fields_upload (λ s r t k. k.upload) from now xs y ∙ ap fields_upload f ∙ u;
}

-- the field that the next turn is given lies in the upload of the part
pub field_lies : (upload : List ℕ) (p : OpenPart) (begun from now next : Fields) (xs : List Occurrence) (x : Occurrence) → part_upload p ≡ upload → fields_left begun ≡ (part_of p).fields
    → fields_upload begun ≡ part_upload p → from ≡ begun → Yields GivesField from xs now → GivesField now (Some x) next → Lies upload (written_of x)
field_lies upload p begun from now next xs x k e u f y g =
    subst (λ w. Lies w (written_of x)) ((fields_so_far p begun from now xs e u f y).upload ∙ k) g.lies

-- a loop over the orders of a record, between two turns
pub record OrdersSoFar (r : OpenRecord) (ps : List OpenPart) (now : Orders) : Type 0 where
  pub all : order_parts (record_of r) ≡ map part_of ps ++ orders_left now
  pub upload : orders_upload now ≡ part_upload r.visit

pub orders_so_far : (r : OpenRecord) (begun from now : Orders) (ps : List OpenPart) → orders_left begun ≡ order_parts (record_of r) → orders_upload begun ≡ part_upload r.visit
    → from ≡ begun → Yields GivesOrder from ps now → OrdersSoFar r ps now
orders_so_far r begun from now ps e u f y = record {
  all = sym e ∙ sym (ap orders_left f) ∙ yielded {steps = GivesOrder} part_of orders_left (λ s r t k. k.gives) from now ps y;
  upload = kept {steps = GivesOrder} orders_upload (λ s r t k. k.upload) from now ps y ∙ ap orders_upload f ∙ u;
}

-- a loop over the records of an upload, between two turns
pub record RecordsSoFar (upload : List ℕ) (all : List Record) (xs : List OpenRecord) (now : Records) : Type 0 where
  pub parted : all ≡ map record_of xs ++ records_left now
  pub reads : records_upload now ≡ upload

pub records_so_far : (upload : List ℕ) (all : List Record) (begun from now : Records) (xs : List OpenRecord) → records_left begun ≡ all → records_upload begun ≡ upload
    → from ≡ begun → Yields GivesRecord from xs now → RecordsSoFar upload all xs now
records_so_far upload all begun from now xs e u f y = record {
  parted = sym e ∙ sym (ap records_left f) ∙ yielded {steps = GivesRecord} record_of records_left (λ s r t k. k.gives) from now xs y;
  reads = kept {steps = GivesRecord} records_upload (λ s r t k. k.upload) from now xs y ∙ ap records_upload f ∙ u;
}
