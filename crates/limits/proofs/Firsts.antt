-- The first item of which something is true. Assumes nothing.
use Rattle.std.proofs.Common.{◌≡◌, ℕ, List, [], ◌∷◌, ◌++◌, length, Some, None, Option, SomeIff, MatchOption, refl, sym, ap, ◌∙◌, subst, arith, append_assoc, length-append}
use Rattle.std.specs.Option.{option_or}
use Rattle.grammar.specs.Items.{Item}
use Rattle.limits.specs.Firsts.{Nowhere, FirstAt, AtMostOne}

-- two ways to cut a list at an item: at the same item, or the first before the second, or behind it
data Cuts (front : List Item) (x : Item) (front' : List Item) (x' : Item) : Type 0 where
  same : front ≡ front' → x ≡ x' → Cuts front x front' x'
  before : (mid : List Item) → front' ≡ front ++ (x ∷ mid) → Cuts front x front' x'
  behind : (mid : List Item) → front ≡ front' ++ (x' ∷ mid) → Cuts front x front' x'

longer : {front front' : List Item} {x x' : Item} (y : Item) → Cuts front x front' x' → Cuts (y ∷ front) x (y ∷ front') x'
longer y (same e f) = same (ap (λ is. y ∷ is) e) f
longer y (before mid e) = before mid (ap (λ is. y ∷ is) e)
longer y (behind mid e) = behind mid (ap (λ is. y ∷ is) e)

cuts : (front : List Item) (x : Item) (back : List Item) (front' : List Item) (x' : Item) (back' : List Item)
    → front ++ (x ∷ back) ≡ front' ++ (x' ∷ back') → Cuts front x front' x'
cuts [] x back [] x' back' e = same refl cc
cuts [] x back (y ∷ front') x' back' e = let f : x ≡ y = cc in before front' (ap (λ z. z ∷ front') (sym f))
cuts (y ∷ front) x back [] x' back' e = let f : y ≡ x' = cc in behind front (ap (λ z. z ∷ front) f)
cuts (y ∷ front) x back (z ∷ front') x' back' e =
    let f : y ≡ z = cc in
    let g : front ++ (x ∷ back) ≡ front' ++ (x' ∷ back') = cc in
    subst (λ u. Cuts (y ∷ front) x (u ∷ front') x') f (longer y (cuts front x back front' x' back' g))

module _ {P : List Item → Item → Type 0} where
  -- of no item
  pub nowhere_none : Nowhere P []
  nowhere_none = record { never = λ front x back e. absurd (none front x back e) }
    where
      none : (front : List Item) (x : Item) (back : List Item) → [] ≡ front ++ (x ∷ back) → ⊥
      none [] x back e = cc
      none (y ∷ front) x back e = cc

  -- of one item more
  pub nowhere_more : {is : List Item} {x : Item} → Nowhere P is → ¬ P is x → Nowhere P (is ++ x ∷ [])
  nowhere_more {is} {x} n not_there = record { never = λ front y back e h. from_cuts front y back e h (cuts is x [] front y back e) }
    where
      from_cuts : (front : List Item) (y : Item) (back : List Item) → is ++ x ∷ [] ≡ front ++ (y ∷ back) → P front y → Cuts is x front y → ⊥
      from_cuts front y back e h (same f g) = not_there (subst (λ u. P u x) (sym f) (subst (P front) (sym g) h))
      from_cuts front y back e h (before mid f) =
          absurd
          (omega (arith, ap length e, ap length f, length-append is (x ∷ []), length-append front (y ∷ back), length-append is (x ∷ mid)))
      from_cuts front y back e h (behind mid f) = n.never front y mid f h

module _ {P : List Item → Item → Type 0} {place : Item → ℕ} where
  -- there is one first place
  pub first_unique : {is : List Item} {k j : ℕ} → FirstAt P place is k → FirstAt P place is j → k ≡ j
  first_unique {k = k} {j = j} f g = from_cuts (cuts f.front f.found f.back g.front g.found g.back (sym f.stands ∙ g.stands))
    where
      from_cuts : Cuts f.front f.found g.front g.found → k ≡ j
      from_cuts (same e h) = f.at ∙ ap place h ∙ sym g.at
      from_cuts (before mid e) = absurd (g.not_before.never f.front f.found mid e f.true_there)
      from_cuts (behind mid e) = absurd (f.not_before.never g.front g.found mid e g.true_there)

  -- and none, where it is true nowhere
  pub first_not_nowhere : {is : List Item} {k : ℕ} → FirstAt P place is k → Nowhere P is → ⊥
  first_not_nowhere f n = n.never f.front f.found f.back f.stands f.true_there

  -- it stays the first whatever follows
  pub first_more : {is : List Item} {k : ℕ} (js : List Item) → FirstAt P place is k → FirstAt P place (is ++ js) k
  first_more js f =
      record {
        front = f.front;
        found = f.found;
        back = f.back ++ js;
        stands = ap (λ is. is ++ js) f.stands ∙ append_assoc f.front (f.found ∷ f.back) js;
        true_there = f.true_there;
        not_before = f.not_before;
        at = f.at;
      }

  -- the last item gives it, where it is true of none before
  pub first_here : {is : List Item} {x : Item} {k : ℕ} → Nowhere P is → P is x → k ≡ place x → FirstAt P place (is ++ x ∷ []) k
  first_here {is} {x} n h e = record { front = is; found = x; back = []; stands = refl; true_there = h; not_before = n; at = e }

-- with one item more the place found so far is kept, and where there is none the item may give it
pub first_kept : (P : List Item → Item → Type 0) (place : Item → ℕ) (is : List Item) (x : Item) (so_far new : Option ℕ)
    → MatchOption so_far (Nowhere P is) (FirstAt P place is) → SomeIff new (P is x) (place x)
    → MatchOption (option_or so_far new) (Nowhere P (is ++ x ∷ [])) (FirstAt P place (is ++ x ∷ []))
first_kept P place is x (Some k) new h g = first_more (x ∷ []) h
first_kept P place is x None (Some k) h g = first_here h g.0 g.1
first_kept P place is x None None h g = nowhere_more h g

-- so of two right answers, each is the other
pub one_answer : (P : List Item → Item → Type 0) (place : Item → ℕ) (is : List Item) → AtMostOne (Nowhere P is) (FirstAt P place is)
one_answer P place is None None n m = refl
one_answer P place is None (Some j) n g = absurd (first_not_nowhere g n)
one_answer P place is (Some k) None f n = absurd (first_not_nowhere f n)
one_answer P place is (Some k) (Some j) f g = ap Some (first_unique f g)
