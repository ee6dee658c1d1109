-- The first item of which something is true, where that may depend on the items before it. Assumes nothing.
--     Nowhere P is              P front x is true of no item x of the items is, with the items front before it
--     FirstAt P place is k      P is so true of an item of the items is and of none before it, and place gives k for that item
--     AtMostOne none first      two answers are the same if both are right: no place is, where none holds, and a place k, where first k holds
use Rattle.std.specs.Prelude.{◌≡◌, ℕ, List, ◌∷◌, ◌++◌, Option, MatchOption}
use Rattle.grammar.specs.Items.{Item}

pub record Nowhere (P : List Item → Item → Type 0) (is : List Item) : Type 0 where
  pub never : (front : List Item) (x : Item) (back : List Item) → is ≡ front ++ (x ∷ back) → ¬ P front x

pub record FirstAt (P : List Item → Item → Type 0) (place : Item → ℕ) (is : List Item) (k : ℕ) : Type 0 where
  pub front : List Item
  pub found : Item
  pub back : List Item
  pub stands : is ≡ front ++ (found ∷ back)
  pub true_there : P front found
  pub not_before : Nowhere P front
  pub at : k ≡ place found

abbrev pub AtMostOne : Type 0 → (ℕ → Type 0) → Type 0
AtMostOne none first = (o p : Option ℕ) → MatchOption o none first → MatchOption p none first → o ≡ p
