-- Lists that rise. Assumes nothing.
use Rattle.std.proofs.Common.{ℕ, Bool, true, false, inl, inr, ⊎_elim, refl, List, [], ◌∷◌, ◌++◌, sym, subst, ◌∙◌, arith}
use Rattle.std.specs.List.{flat_map}
use Rattle.faults.specs.Along.{given, along, In, RisesBy}
use Rattle.faults.specs.Order.{BelowOr, Before}
use Rattle.faults.specs.declared.report.Fault.{Fault}
use Rattle.faults.proofs.Along.{all_from_in, in_all, in_at, in_cases, in_along, along_flat_map}

module _ {A : Type 0} (R : A → A → Type 0) where
  pub rises_append : (xs ys : List A) → RisesBy R xs → RisesBy R ys → ((x y : A) → In x xs → In y ys → R x y) → RisesBy R (xs ++ ys)
  rises_append [] ys p q h = q
  rises_append (x ∷ xs) ys p q h = (
    all_from_in (R x) (xs ++ ys) (λ y m. ⊎_elim (in_all (R x) xs p.0 y) (h x y (inl refl)) (in_cases y xs ys m)),
    rises_append xs ys p.1 q (λ a b m n. h a b (inr m) n),
  )

  pub rises_given : (b : Bool) (x : A) → RisesBy R (given b x)
  rises_given true x = (tt, tt)
  rises_given false x = tt

module _ {A B : Type 0} (R : B → B → Type 0) (S : A → A → Type 0) where
  -- each part rises, and what is given at an element comes before what is given at one that follows it
  pub rises_along : (g : List A → A → List B) (before xs : List A) → RisesBy S xs
      → ((front : List A) (a : A) → In a xs → RisesBy R (g front a))
      → ((front front' : List A) (a b : A) (x y : B) → S a b → In x (g front a) → In y (g front' b) → R x y)
      → RisesBy R (along g before xs)
  rises_along g before [] s parts across = tt
  rises_along g before (a ∷ xs) s parts across =
      rises_append R (g before a) (along g (before ++ a ∷ []) xs) (parts before a (inl refl))
      (rises_along g (before ++ a ∷ []) xs s.1 (λ front b p. parts front b (inr p)) across)
      (λ x y p q.
      let f = in_along g (before ++ a ∷ []) xs y q in
      let later = in_all (S a) xs s.0 f.at (subst (In f.at) (sym f.stands) (in_at f.front f.at f.back)) in
      across before (before ++ a ∷ [] ++ f.front) a f.at x y later p f.within)

  pub rises_flat_map : (f : A → List B) (xs : List A) → RisesBy S xs → ((a : A) → In a xs → RisesBy R (f a))
      → ((a b : A) (x y : B) → S a b → In x (f a) → In y (f b) → R x y) → RisesBy R (flat_map f xs)
  rises_flat_map f xs s parts across =
      subst (RisesBy R) (along_flat_map f [] xs) (rises_along (λ _ x. f x) [] xs s (λ _ a p. parts a p) (λ _ _ a b x y r p q. across a b x y r p q))

-- the order of faults is transitive
below_or_trans : {a b c : ℕ} {P Q V : Type 0} → (P → Q → V) → BelowOr a b P → BelowOr b c Q → BelowOr a c V
below_or_trans h (inl p) (inl q) = inl (omega arith)
below_or_trans h (inl p) (inr q) = inl (omega (arith, q.0))
below_or_trans h (inr p) (inl q) = inl (omega (arith, p.0))
below_or_trans h (inr p) (inr q) = inr (p.0 ∙ q.0, h p.1 q.1)

pub before_trans : (x y z : Fault) → Before x y → Before y z → Before x z
before_trans x y z = below_or_trans (below_or_trans (below_or_trans (λ p q. omega arith)))
