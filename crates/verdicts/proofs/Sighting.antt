-- What is seen, as the cells are filled. Assumes nothing.
use Rattle.std.proofs.Common.{◌≡◌, ℕ, false, Bool, ◌<◌, nat_lt, ◌&&◌, ◌==◌, ◌||◌, if◌then◌else◌, List, [], ◌∷◌, ◌++◌, Some, None, refl, sym, ap, ◌∙◌, subst, arith}
use Rattle.std.proofs.lemmas.Bool.Decides.{nat_tests}
use Rattle.std.proofs.lemmas.List.Folds.{list_any-append}
use Rattle.std.specs.List.{list_any}
use Rattle.grammar.specs.declared.states.Segment.{Segment}
use Rattle.grammar.specs.declared.states.Segment.TheVariants.{Header, Visit, Order}
use Rattle.records.specs.Records.{Written, Part, Record}
use Rattle.fields.specs.Fields.{segment_of}
use Rattle.fields.specs.declared.field.Field.{Field}
use Rattle.fields.specs.declared.field.Field.TheVariants.{D03}
use Rattle.values.specs.Numbers.{order_number}
use Rattle.cells.specs.Cells.{stands_in}
use Rattle.cells.specs.Filled.{value_in, fields_in}
use Rattle.cells.proofs.Standing.{stands_by, same_segment}
use Rattle.rules.specs.Views.{View}
use Rattle.verdicts.specs.Sights.{has_number}

-- two views that show the same are the same
pub same_view : (v w : View) → v.today ≡ w.today → v.listed ≡ w.listed → ((f : Field) → v.value f ≡ w.value f) → ((n : ℕ) → v.stood n ≡ w.stood n) → v.ordered ≡ w.ordered → v ≡ w
same_view v w a b c d e = λ i. record { today = a i; listed = b i; value = λ f. c f i; stood = λ n. d n i; ordered = e i }

by_home : (f : Field) (g h : Segment) (a b : List ℕ) → segment_of f ≡ h → (if stands_in f g then a else b) ≡ (if same_segment h g then a else b)
by_home f g h a b e = ap (λ t. if t then a else b) (stands_by f h g e)

-- an order is read
turned_in : (x : Record) (ws fs : List Written) (f : Field) (h : Segment) → segment_of f ≡ h
    → (if stands_in f Order then value_in Order f fs else value_in h f (fields_in x ws h)) ≡ value_in h f (fields_in x fs h)
turned_in x ws fs f Header e = by_home f Order Header _ _ e
turned_in x ws fs f Visit e = by_home f Order Visit _ _ e
turned_in x ws fs f Order e = by_home f Order Order _ _ e

pub turned_value : (x : Record) (ws fs : List Written) (f : Field)
    → (if stands_in f Order then value_in Order f fs else value_in (segment_of f) f (fields_in x ws (segment_of f))) ≡ value_in (segment_of f) f (fields_in x fs (segment_of f))
turned_value x ws fs f = turned_in x ws fs f (segment_of f) refl

-- an order more, where t is answered of the number n and s was before
pub stood_more : (before : List Part) (o : Part) (n : ℕ) (s t : Bool) → s ≡ list_any (has_number n) before → t ≡ (s || has_number n o) → t ≡ list_any (has_number n) (before ++ o ∷ [])
stood_more before o n s t e k = k ∙ (ap (λ b. b || has_number n o) e ∙ (grind (arith) ∙ sym (list_any-append (has_number n) before (o ∷ []))))

-- an order with a number, or without one
pub numbered : (o : Part) (v : List ℕ) (m n : ℕ) → v ≡ value_in Order D03 o.fields → Some m ≡ order_number v → m < 1000 → (n == m && nat_lt n 1000) ≡ has_number n o
numbered o v m n e k l = rw (sym e, sym k) (grind (arith, nat_tests))

pub unnumbered : (o : Part) (v : List ℕ) (n : ℕ) → v ≡ value_in Order D03 o.fields → None ≡ order_number v → false ≡ has_number n o
unnumbered o v n e k = rw (sym e, sym k) refl

-- a field behind the filling of the segment g, where it had the value b before
pub filled_value : (p : Part) (g : Segment) (v b : List ℕ) (f : Field) → p.segment ≡ g → v ≡ (if stands_in f p.segment then value_in p.segment f p.fields else b)
    → v ≡ (if stands_in f g then value_in g f p.fields else b)
filled_value p g v b f e k = subst (λ h. v ≡ (if stands_in f h then value_in h f p.fields else b)) e k
