-- Lists that are made part by part. Assumes nothing.
--     given b x              x alone if b, and else nothing
--     along g before xs      what g gives at each of the elements xs, told those that stand before it: `before`, and those of xs
--     In y xs                y is an element of xs
--     Found g before xs y    y is of what g gives at an element of xs, told those that stand before it
--     FoundBy f xs y         y is of what f gives at an element of xs
--     RisesBy R xs           each element of xs stands in the relation R to all that follow it
use Rattle.std.specs.Prelude.{◌≡◌, ◌⊎◌, Bool, if◌then◌else◌, List, [], ◌∷◌, ◌++◌}
use Rattle.std.specs.List.{AllByRecursion}

abbrev pub given : {A : Type 0} → Bool → A → List A
given b x = if b then x ∷ [] else []

abbrev pub along : {A B : Type 0} → (List A → A → List B) → List A → List A → List B
along g before [] = []
along g before (x ∷ xs) = g before x ++ along g (before ++ x ∷ []) xs

abbrev pub In : {A : Type 0} → A → List A → Type 0
In y [] = ⊥
In y (x ∷ xs) = (y ≡ x) ⊎ In y xs

pub record Found {A B : Type 0} (g : List A → A → List B) (before xs : List A) (y : B) : Type 0 where
  pub front : List A
  pub at : A
  pub back : List A
  pub stands : xs ≡ front ++ (at ∷ back)
  pub within : In y (g (before ++ front) at)

pub record FoundBy {A B : Type 0} (f : A → List B) (xs : List A) (y : B) : Type 0 where
  pub at : A
  pub stands : In at xs
  pub within : In y (f at)

abbrev pub RisesBy : {A : Type 0} → (A → A → Type 0) → List A → Type 0
RisesBy R [] = Unit {0}
RisesBy R (x ∷ xs) = AllByRecursion (R x) xs × RisesBy R xs
