-- Where the fields stand, and what names them there. Assumes nothing.
use native.Mathlib.Numerals.{unary_clauses}
use Rattle.std.proofs.Common.{◌≡◌, ℕ, zero, suc, ◌+◌, ◌-◌, ◌<◌, ◌≤◌, Bool, true, ◌&&◌, ◌==◌, List, [], ◌∷◌, ◌++◌, length, Option, Some, refl, sym, ap, ◌∙◌, arith, rules}
use Rattle.std.proofs.lemmas.Bool.Decides.{nat_tests}
use Rattle.std.specs.List.{slice_get}
use Rattle.std.specs.List.Sorted.{IsStrictlyIncreasing}
use Rattle.std.specs.Prelude.{map, nat_lt, slice_index, slice_index_or}
use Rattle.calendar.specs.Digits.{is_digit, two_at}
use Rattle.grammar.specs.declared.states.FieldId.{FieldId}
use Rattle.grammar.specs.declared.states.Segment.{Segment}
use Rattle.grammar.specs.declared.states.Segment.TheVariants.{Header, Visit, Order}
use Rattle.fields.proofs.Walk.{every, at_place}
use Rattle.fields.specs.Fields.{row, names, id_of, segment_of, fields_of, letter_of, first_of, field_at, Naming, Standing}
use Rattle.fields.specs.declared.field.Field.{Field}
use Rattle.fields.specs.declared.field.Field.TheVariants.{H00, H01, M01, M02, M03, M04, M05, M06, M07, M08, M09, M10, M11, M12, M13, M14, M15, M16, M17, M18, M19, M20, M21, M22, M23, M24, M25, M26, M27, M28, M29, M30, M31, M32, M33, M34, M35, M36, M37, M38, M39, M40, M41, M42, M43, M44, M45, M46, M47, M48, M49, M50, M51, M52, D01, D02, D03, D04, D05, D06, D07, D08, D09, D10, D11, D12, D13, D14, D15}

pub named : (f : Field) → field_at (segment_of f) (id_of f) ≡ Some f
named H00 = refl
named H01 = refl
named M01 = refl
named M02 = refl
named M03 = refl
named M04 = refl
named M05 = refl
named M06 = refl
named M07 = refl
named M08 = refl
named M09 = refl
named M10 = refl
named M11 = refl
named M12 = refl
named M13 = refl
named M14 = refl
named M15 = refl
named M16 = refl
named M17 = refl
named M18 = refl
named M19 = refl
named M20 = refl
named M21 = refl
named M22 = refl
named M23 = refl
named M24 = refl
named M25 = refl
named M26 = refl
named M27 = refl
named M28 = refl
named M29 = refl
named M30 = refl
named M31 = refl
named M32 = refl
named M33 = refl
named M34 = refl
named M35 = refl
named M36 = refl
named M37 = refl
named M38 = refl
named M39 = refl
named M40 = refl
named M41 = refl
named M42 = refl
named M43 = refl
named M44 = refl
named M45 = refl
named M46 = refl
named M47 = refl
named M48 = refl
named M49 = refl
named M50 = refl
named M51 = refl
named M52 = refl
named D01 = refl
named D02 = refl
named D03 = refl
named D04 = refl
named D05 = refl
named D06 = refl
named D07 = refl
named D08 = refl
named D09 = refl
named D10 = refl
named D11 = refl
named D12 = refl
named D13 = refl
named D14 = refl
named D15 = refl

-- what is computed of a field of the segment g: its number n, by its ID, segment and row
abbrev fits_in : Segment → ℕ → FieldId → Segment → ℕ → Bool
fits_in g n i s r =
    letter_of s == letter_of g && (i.letter == letter_of g && (is_digit i.tens && (is_digit i.ones && (two_at (i.tens ∷ i.ones ∷ []) 0 == n && nat_lt r 69))))

abbrev is_so : Segment → ℕ → Field → Bool
is_so g n f = fits_in g n (id_of f) (segment_of f) (row f)

all_so : (g : Segment) → every (is_so g) (first_of g) (fields_of g) ≡ true
all_so Header = refl
all_so Visit = refl
all_so Order = refl

same_letter : (g h : Segment) → letter_of g ≡ letter_of h → g ≡ h
same_letter Header Header e = refl
same_letter Header Visit e = absurd (omega (arith, e))
same_letter Header Order e = absurd (omega (arith, e))
same_letter Visit Header e = absurd (omega (arith, e))
same_letter Visit Visit e = refl
same_letter Visit Order e = absurd (omega (arith, e))
same_letter Order Header e = absurd (omega (arith, e))
same_letter Order Visit e = absurd (omega (arith, e))
same_letter Order Order e = refl

-- what is found has a place in the segment
found : (g : Segment) (i : FieldId) (f : Field) → field_at g i ≡ Some f
    → (i.letter ≡ letter_of g) × (is_digit i.tens ≡ true) × (is_digit i.ones ≡ true) × (first_of g ≤ two_at (i.tens ∷ i.ones ∷ []) 0)
    × (slice_get (fields_of g) (two_at (i.tens ∷ i.ones ∷ []) 0 - first_of g) ≡ Some f)
found g i f e = grind (arith, nat_tests)

-- what stands in a segment is of it
so_in : (g : Segment) (k : ℕ) (f : Field) → slice_get (fields_of g) k ≡ Some f → is_so g (first_of g + k) f ≡ true
so_in g k f e = at_place (is_so g) (first_of g) k _ (fields_of g) f (all_so g) e refl

so_found : (g : Segment) (i : FieldId) (f : Field) → field_at g i ≡ Some f → is_so g (two_at (i.tens ∷ i.ones ∷ []) 0) f ≡ true
so_found g i f e = let w = found g i f e in at_place (is_so g) (first_of g) _ _ (fields_of g) f (all_so g) w.4 (omega (arith, w.3))

same_digits : (a b c d : ℕ) → is_digit a ≡ true → is_digit b ≡ true → is_digit c ≡ true → is_digit d ≡ true
    → two_at (a ∷ b ∷ []) 0 ≡ two_at (c ∷ d ∷ []) 0 → (a ≡ c) × (b ≡ d)
same_digits a b c d h k m n e = (grind (arith, nat_tests), grind (arith, nat_tests))

same_id : (i j : FieldId) → i.letter ≡ j.letter → (i.tens ≡ j.tens) × (i.ones ≡ j.ones) → i ≡ j
same_id i j e d = search (rules, e, d.0, d.1)

parts : (g : Segment) (n : ℕ) (i : FieldId) (s : Segment) (r : ℕ) → fits_in g n i s r ≡ true
    → (letter_of s ≡ letter_of g) × (i.letter ≡ letter_of g) × (is_digit i.tens ≡ true) × (is_digit i.ones ≡ true)
    × (two_at (i.tens ∷ i.ones ∷ []) 0 ≡ n) × (r < 69)
parts g n i s r h = grind (arith, nat_tests)

pub only : (g : Segment) (i : FieldId) (f : Field) → field_at g i ≡ Some f → (i ≡ id_of f) × (g ≡ segment_of f)
only g i f e =
    let w = found g i f e in
    let p = parts g _ (id_of f) (segment_of f) (row f) (so_found g i f e) in
    (same_id i (id_of f) (w.0 ∙ sym p.1) (same_digits _ _ _ _ w.1 w.2 p.2 p.3 (sym p.4)), same_letter _ _ (sym p.0))

pub row_small : (f : Field) → row f < 69
row_small f = (parts _ _ (id_of f) _ (row f) (so_found (segment_of f) (id_of f) f (named f))).5

same_found : {G I F : Type 0} (at : G → I → Option F) (f h : F) (g k : G) (i j : I) → at g i ≡ Some f → at k j ≡ Some h → k ≡ g → j ≡ i → f ≡ h
same_found at f h g k i j d e p q = grind arith

-- a row has one name, and the name one segment
pub row_apart : (f h : Field) → row f ≡ row h → f ≡ h
row_apart f h e =
    let same : id_of h ≡ id_of f = ap (λ r. let n = slice_index_or names r [] in record { letter = slice_index n 0; tens = slice_index n 1; ones = slice_index n 2 }) (sym e) in
    let p = parts _ _ (id_of f) (segment_of f) (row f) (so_found (segment_of f) (id_of f) f (named f)) in
    let q = parts _ _ (id_of h) (segment_of h) (row h) (so_found (segment_of h) (id_of h) h (named h)) in
    same_found field_at f h _ _ (id_of f) (id_of h) (named f) (named h) (same_letter _ _ (sym q.1 ∙ (ap (λ (i : FieldId). i.letter) same ∙ p.1))) same

parted : {X : Type 0} (xs : List X) (k : ℕ) (x : X) → slice_get xs k ≡ Some x → (front : List X) × (back : List X) × (xs ≡ front ++ (x ∷ back))
parted [] k x e = absurd (grind arith)
parted (y ∷ xs) zero x e = ([], xs, grind arith)
parted (y ∷ xs) (suc k) x e = let p = parted xs k x e in (y ∷ p.0, p.1, ap (λ zs. y ∷ zs) p.2)

at_seam : {X : Type 0} (front : List X) (x : X) (back : List X) → slice_get (front ++ (x ∷ back)) (length front) ≡ Some x
at_seam [] x back = refl
at_seam (y ∷ front) x back = at_seam front x back

pub segment_in : (g : Segment) (k : ℕ) (f : Field) → slice_get (fields_of g) k ≡ Some f → segment_of f ≡ g
segment_in g k f e = same_letter _ _ (parts g _ (id_of f) (segment_of f) (row f) (so_in g k f e)).0

pub stands : (f : Field) → (front : List Field) × (back : List Field) × (fields_of (segment_of f) ≡ front ++ (f ∷ back))
stands f = parted (fields_of (segment_of f)) _ f (found (segment_of f) (id_of f) f (named f)).4

pub alone : (g : Segment) (front : List Field) (f : Field) (back : List Field) → fields_of g ≡ front ++ (f ∷ back) → segment_of f ≡ g
alone g front f back e = segment_in g (length front) f (ap (λ fs. slice_get fs (length front)) e ∙ at_seam front f back)

abbrev rising : List ℕ → Bool
rising (x ∷ y ∷ xs) = nat_lt x y && rising (y ∷ xs)
rising _ = true

rises : (xs : List ℕ) → rising xs ≡ true → IsStrictlyIncreasing xs
rises [] h k l = absurd (omega (arith, l))
rises (x ∷ []) h k l = absurd (omega (arith, l))
rises (x ∷ y ∷ xs) h zero l = grind (arith, nat_tests)
rises (x ∷ y ∷ xs) h (suc k) l = let r = rises (y ∷ xs) (grind (arith, nat_tests)) k (omega (arith, l)) in simp unary_clauses (simp unary_clauses at r)

pub rise : (g : Segment) → IsStrictlyIncreasing (map row (fields_of g))
rise Header = rises (map row (fields_of Header)) refl
rise Visit = rises (map row (fields_of Visit)) refl
rise Order = rises (map row (fields_of Order)) refl

pub naming : Naming
naming = record { named = named; only = only }

pub standing : Standing
standing = record {
  small = row_small;
  apart = row_apart;
  stands = stands;
  alone = alone;
  rise = rise;
}
