-- Where a field stands. Assumes nothing.
use Rattle.std.proofs.Common.{◌≡◌, Bool, true, false, ◌==◌, List, [], ◌∷◌, ◌++◌, Some, None, Option, sym, ap, ◌∙◌, subst, refl, arith}
use Rattle.std.proofs.lemmas.Bool.Decides.{nat_tests}
use Rattle.std.specs.List.{list_any}
use Rattle.std.specs.Option.{option_map_or}
use Rattle.grammar.specs.declared.states.Segment.{Segment}
use Rattle.grammar.specs.declared.states.Segment.TheVariants.{Header, Visit, Order}
use Rattle.grammar.specs.declared.states.FieldId.{FieldId}
use Rattle.fields.specs.Fields.{row, segment_of, fields_of, field_at}
use Rattle.fields.specs.declared.field.Field.{Field}
use Rattle.fields.proofs.Naming.{only, row_apart, stands, alone}
use Rattle.cells.specs.Cells.{stands_in, is_at}

any_in : {X : Type 0} (p : X → Bool) (front : List X) (x : X) (back : List X) → p x ≡ true → list_any p (front ++ (x ∷ back)) ≡ true
any_in p [] x back h = grind (arith)
any_in p (y ∷ front) x back h = let r = any_in p front x back h in grind (arith)

-- a field stands in its segment
pub at_home : (f : Field) → stands_in f (segment_of f) ≡ true
at_home f =
    let w = stands f in
    subst (λ fs. list_any (λ h. row h == row f) fs ≡ true) (sym w.2) (any_in (λ h. row h == row f) w.0 f w.1 (grind (arith, nat_tests)))

home_at : (h f : Field) (g : Segment) → g ≡ segment_of h → row h ≡ row f → stands_in f g ≡ true
home_at h f g e r = subst (λ k. stands_in k g ≡ true) (row_apart h f r) (subst (λ s. stands_in h s ≡ true) (sym e) (at_home h))

at_by : (g : Segment) (i : FieldId) (f : Field) (o : Option Field) → field_at g i ≡ o → is_at g i f ≡ true → stands_in f g ≡ true
at_by g i f None e h = absurd (let k : option_map_or (λ h. row h == row f) None false ≡ true = subst (λ o. option_map_or (λ h. row h == row f) o false ≡ true) e h in cc)
at_by g i f (Some h) e k =
    let m : (row h == row f) ≡ true = subst (λ o. option_map_or (λ h. row h == row f) o false ≡ true) e k in
    home_at h f g (only g i h e).1 (grind (arith, nat_tests))

-- an ID names a field where that stands
pub named_at_home : (g : Segment) (i : FieldId) (f : Field) → is_at g i f ≡ true → stands_in f g ≡ true
named_at_home g i f h = at_by g i f (field_at g i) refl h

abbrev Split : {X : Type 0} → (X → Bool) → List X → Type 0
Split {X} p xs = (front : List X) × (x : X) × (back : List X) × (xs ≡ front ++ (x ∷ back)) × (p x ≡ true)

split_head : {X : Type 0} (p : X → Bool) (x : X) (xs : List X) (b : Bool) → p x ≡ b → list_any p (x ∷ xs) ≡ true → (list_any p xs ≡ true → Split p xs) → Split p (x ∷ xs)
split_head p x xs true e h r = ([], x, xs, refl, e)
split_head p x xs false e h r = let s = r (grind (arith)) in (x ∷ s.0, s.1, s.2, ap (λ k. x ∷ k) s.3, s.4)

any_split : {X : Type 0} (p : X → Bool) (xs : List X) → list_any p xs ≡ true → Split p xs
any_split p [] h = absurd (let k : false ≡ true = h in cc)
any_split p (x ∷ xs) h = split_head p x xs (p x) refl h (any_split p xs)

-- and in no other
pub only_home : (f : Field) (g : Segment) → stands_in f g ≡ true → segment_of f ≡ g
only_home f g h =
    let w = any_split (λ h. row h == row f) (fields_of g) h in
    subst (λ k. segment_of k ≡ g) (row_apart w.1 f (grind (arith, nat_tests, w.4))) (alone g w.0 w.1 w.2 w.3)

abbrev pub same_segment : Segment → Segment → Bool
same_segment Header Header = true
same_segment Visit Visit = true
same_segment Order Order = true
same_segment _ _ = false

home_is : (f : Field) (g : Segment) → segment_of f ≡ g → stands_in f g ≡ true
home_is f g e = subst (λ s. stands_in f s ≡ true) e (at_home f)

not_home : (f : Field) (h g : Segment) → segment_of f ≡ h → ¬ (h ≡ g) → stands_in f g ≡ false
not_home f h g e n = let k : stands_in f g ≡ true → ⊥ = λ s. n (sym e ∙ only_home f g s) in grind (arith, k)

-- where a field stands, told by its segment
pub stands_by : (f : Field) (h g : Segment) → segment_of f ≡ h → stands_in f g ≡ same_segment h g
stands_by f Header Header e = home_is f Header e
stands_by f Visit Visit e = home_is f Visit e
stands_by f Order Order e = home_is f Order e
stands_by f Header Visit e = not_home f Header Visit e (λ d. cc)
stands_by f Header Order e = not_home f Header Order e (λ d. cc)
stands_by f Visit Header e = not_home f Visit Header e (λ d. cc)
stands_by f Visit Order e = not_home f Visit Order e (λ d. cc)
stands_by f Order Header e = not_home f Order Header e (λ d. cc)
stands_by f Order Visit e = not_home f Order Visit e (λ d. cc)
