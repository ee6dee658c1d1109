-- An upload has no more faults than 2028 times the square of its length, so they can be counted. Assumes nothing.
use Rattle.std.proofs.Common.{ℕ, ◌+◌, ◌*◌, ◌≤◌, Bool, true, false, if◌then◌else◌, List, [], ◌∷◌, ◌++◌, length, arith, ap, length-append}
use Rattle.std.proofs.Math.Nat.{mul-le-mul_right}
use Rattle.std.proofs.lemmas.List.Sums.{sum_by-cons}
use Rattle.std.specs.List.{sum_by, flat_map}
use Rattle.grammar.specs.Grammar.{declaration, spelling, closing, Path, here, skips, turns, holds, Lawful}
use Rattle.grammar.specs.Items.{Item, structure, field, items, items_of}
use Rattle.grammar.specs.declared.states.Segment.{Segment}
use Rattle.grammar.specs.declared.states.Segment.TheVariants.{Header, Visit, Order}
use Rattle.grammar.specs.declared.states.State.{State}
use Rattle.grammar.specs.declared.states.Element.TheVariants.{Rec, Mb, Mb2}
use Rattle.grammar.specs.declared.states.Tag.TheVariants.{Open, Close}
use Rattle.cursor.proofs.Left.{spelled}
use Rattle.records.specs.Records.{Part, Record, begins, fields_ahead, part_ahead, orders_ahead, close_ahead, record_ahead, records_of, or_unordered, order_parts}
use Rattle.fields.specs.Fields.{fields_of}
use Rattle.faults.specs.Along.{given, along}
use Rattle.faults.specs.Rules.{rules_of, tiers}
use Rattle.faults.specs.declared.report.Fault.{Fault}
use Rattle.faults.specs.declared.rules.Rule.{Rule}
use Rattle.faults.specs.declared.rules.Tier.{Tier}
use Rattle.faults.specs.declared.rules.Tier.TheVariants.{First, Second, Third}
use Rattle.rules.specs.Views.{View}
use Rattle.verdicts.specs.Sights.{Setting, view}
use Rattle.verdicts.specs.Faults.{lacking, striking, part_faults, order_faults, rule_faults, tier_faults, first_told, tiers_faults, faults_of}
use Rattle.verdicts.specs.Uploads.{faults_in}

-- lists that are made part by part, of parts that are short

given_few : {A : Type 0} (b : Bool) (x : A) → length (given b x) ≤ 1
given_few true x = omega arith
given_few false x = omega arith

module _ {A B : Type 0} where
  flat_map_few : (f : A → List B) (m : ℕ) → ((x : A) → length (f x) ≤ m) → (xs : List A) → length (flat_map f xs) ≤ length xs * m
  flat_map_few f m h [] = omega arith
  flat_map_few f m h (x ∷ xs) = omega (arith, length-append (f x) (flat_map f xs), h x, flat_map_few f m h xs)

  along_few : (g : List A → A → List B) (w : A → ℕ) → ((before : List A) (x : A) → length (g before x) ≤ w x)
      → (before xs : List A) → length (along g before xs) ≤ sum_by w xs
  along_few g w h before [] = omega arith
  along_few g w h before (x ∷ xs) =
      omega (arith, length-append (g before x) (along g (before ++ x ∷ []) xs), h before x, along_few g w h (before ++ x ∷ []) xs, sum_by-cons w x xs)

  each_few : (g : List A → A → List B) → ((before : List A) (x : A) → length (g before x) ≤ 1) → (before xs : List A) → length (along g before xs) ≤ length xs
  each_few g h before [] = omega arith
  each_few g h before (x ∷ xs) =
      omega (arith, length-append (g before x) (along g (before ++ x ∷ []) xs), h before x, each_few g h (before ++ x ∷ []) xs)

-- how many faults a segment and a record can have of one rule, and a record of all rules of a tier

abbrev part_most : Part → ℕ
part_most p = 52 + length p.fields

abbrev rule_most : Record → ℕ
rule_most x = part_most x.header + part_most x.visit + sum_by part_most (order_parts x)

abbrev record_most : Record → ℕ
record_most x = 13 * rule_most x

fields_few : (g : Segment) → length (fields_of g) ≤ 52
fields_few Header = omega arith
fields_few Visit = omega arith
fields_few Order = omega arith

part_few : (r : Rule) (v : View) (n k : ℕ) (p : Part) → length (part_faults r v n k p) ≤ part_most p
part_few r v n k p =
    let a = flat_map_few (lacking r v n k p.tag) 1 (λ f. given_few _ _) (fields_of p.segment) in
    let b = each_few (striking r v p.segment n k) (λ before w. given_few _ _) [] p.fields in
    omega (arith, a, b, fields_few p.segment, length-append (flat_map (lacking r v n k p.tag) (fields_of p.segment)) (along (striking r v p.segment n k) [] p.fields))

rules_few : (t : Tier) → length (rules_of t) ≤ 13
rules_few First = omega arith
rules_few Second = omega arith
rules_few Third = omega arith

first_few : (m : ℕ) (fs gs : List Fault) → length fs ≤ m → length gs ≤ m → length (first_told fs gs) ≤ m
first_few m [] gs h k = k
first_few m (f ∷ fs) gs h k = h

module _ (s : Setting) (n : ℕ) (x : Record) where
  rule_few : (r : Rule) → length (rule_faults s n x r) ≤ rule_most x
  rule_few r =
      let v = view s x [] [] in
      let h = part_faults r v n 0 x.header in
      let m = part_faults r v n 1 x.visit in
      let o = along (order_faults s n x r) [] (order_parts x) in
      let few = along_few (order_faults s n x r) part_most (λ before p. part_few r _ n _ p) [] (order_parts x) in
      omega (arith, part_few r v n 0 x.header, part_few r v n 1 x.visit, few, length-append h m, length-append (h ++ m) o)

  tier_few : (t : Tier) → length (tier_faults s n x t) ≤ record_most x
  tier_few t = omega (arith, flat_map_few (rule_faults s n x) (rule_most x) rule_few (rules_of t), mul-le-mul_right (rule_most x) (rules_few t))

  tiers_few : (ts : List Tier) → length (tiers_faults s n x ts) ≤ record_most x
  tiers_few [] = omega arith
  tiers_few (t ∷ ts) = first_few _ (tier_faults s n x t) (tiers_faults s n x ts) (tier_few t) (tiers_few ts)

-- how many the records can have that begin among some items

ahead_few : (is : List Item) → length (fields_ahead is) ≤ length is
ahead_few (field i at v ∷ is) = omega (arith, ahead_few is)
ahead_few (structure t at ∷ is) = omega arith
ahead_few [] = omega arith

either : (b : Bool) (m : ℕ) (p q : Part) → part_most p ≤ m → part_most q ≤ m → part_most (if b then p else q) ≤ m
either true m p q h k = h
either false m p q h k = k

part_ahead_few : (g : Segment) (is : List Item) → part_most (part_ahead g is) ≤ 52 + length is
part_ahead_few g [] = omega arith
part_ahead_few g (x ∷ is) = either (begins g x) _ _ _ (omega (arith, ahead_few is)) (omega (arith, part_ahead_few g is))

-- no two orders share a field, nor does any have those that come first of all
orders_ahead_few : (is : List Item) → length (fields_ahead is) + sum_by part_most (orders_ahead is) ≤ 52 * length is
orders_ahead_few (structure (Open Mb2) at ∷ is) =
    omega (arith, orders_ahead_few is, sum_by-cons part_most (record { segment = Order; tag = at; fields = fields_ahead is }) (orders_ahead is))
orders_ahead_few (structure (Close Mb) at ∷ is) = omega arith
orders_ahead_few (x ∷ is) = omega (arith, orders_ahead_few is)
orders_ahead_few [] = omega arith

unordered_few : (at : ℕ) (ps : List Part) → sum_by part_most (or_unordered at ps) ≤ 52 + sum_by part_most ps
unordered_few at [] = omega arith
unordered_few at (p ∷ ps) = omega arith

record_ahead_few : (is : List Item) → record_most (record_ahead is) ≤ 2028 * (1 + length is)
record_ahead_few is =
    omega (arith, part_ahead_few Header is, part_ahead_few Visit is, orders_ahead_few is, unordered_few (close_ahead is) (orders_ahead is))

records_few : (m : ℕ) (is : List Item) → length is ≤ m → sum_by record_most (records_of is) ≤ length is * (2028 * m)
records_few m (structure (Open Rec) at ∷ is) h =
    omega (arith, record_ahead_few is, records_few m is (omega arith), sum_by-cons record_most (record_ahead is) (records_of is))
records_few m (x ∷ is) h = omega (arith, records_few m is (omega arith))
records_few m [] h = omega arith

-- an item takes one byte at least
items_few : {s n : State} {w : List ℕ} (at : ℕ) (p : Path s w n) → length (items at p) ≤ length w
items_few at here = omega arith
items_few at (skips h p) = omega (arith, items_few (at + 1) p)
items_few at (turns {t} {w = w} h p) = omega (arith, items_few (at + length (spelling t)) p, spelled t, length-append (spelling t) w)
items_few at (holds {i = i} {v = v} {w} d h p) = omega (arith, items_few (at + 5 + length v + 6) p, length-append v (closing i ++ w))

-- there are no more records than items, and of each the 13 rules of a tier at most can be broken, by 52 absent fields of a segment and by each written one
pub faults_few : (s : Setting) (bs : List ℕ) (l : Lawful bs) (m : ℕ) → length bs ≤ m → length (faults_in s (records_of (items_of l))) ≤ 2028 * (m * m)
faults_few s bs l m h =
    let is = items_of l in
    let inside = items_few (length declaration) l.path in
    let few : length is ≤ m = omega (arith, inside, ap length l.declared, length-append declaration l.rest) in
    let all = along_few (λ before x. faults_of s (1 + length before) x) record_most (λ before x. tiers_few s _ x tiers) [] (records_of is) in
    omega (arith, all, records_few m is few, mul-le-mul_right (2028 * m) few)
