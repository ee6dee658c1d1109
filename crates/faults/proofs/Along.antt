-- Lists that are made part by part. Assumes nothing.
use Rattle.std.proofs.Common.{◌≡◌, ℕ, zero, suc, Bool, true, false, ◌+◌, ◌<◌, ◌⊎◌, inl, inr, ⊎_elim, List, [], ◌∷◌, ◌++◌, length, take, get_or, Some, refl, sym, ap, subst, ◌∙◌, arith}
use Rattle.std.proofs.lemmas.List.{append_assoc, append-nil, take_more}
use Rattle.std.proofs.lemmas.List.Concat.{flat_map-append}
use Rattle.std.specs.List.{flat_map, slice_get, AllByRecursion}
use Rattle.faults.specs.Along.{given, along, In, Found, FoundBy}

-- what is in a list

module _ {A : Type 0} where
  pub in_left : (y : A) (xs ys : List A) → In y xs → In y (xs ++ ys)
  in_left y [] ys h = absurd h
  in_left y (x ∷ xs) ys (inl e) = inl e
  in_left y (x ∷ xs) ys (inr h) = inr (in_left y xs ys h)

  pub in_right : (y : A) (xs ys : List A) → In y ys → In y (xs ++ ys)
  in_right y [] ys h = h
  in_right y (x ∷ xs) ys h = inr (in_right y xs ys h)

  pub in_cases : (y : A) (xs ys : List A) → In y (xs ++ ys) → In y xs ⊎ In y ys
  in_cases y [] ys h = inr h
  in_cases y (x ∷ xs) ys (inl e) = inl (inl e)
  in_cases y (x ∷ xs) ys (inr h) = ⊎_elim (λ p. inl (inr p)) (λ p. inr p) (in_cases y xs ys h)

  pub in_at : (front : List A) (x : A) (back : List A) → In x (front ++ (x ∷ back))
  in_at front x back = in_right x front (x ∷ back) (inl refl)

  pub in_got : (xs : List A) (k : ℕ) (x : A) → slice_get xs k ≡ Some x → In x xs
  in_got [] k x e = absurd (grind arith)
  in_got (y ∷ xs) zero x e = inl (grind arith)
  in_got (y ∷ xs) (suc k) x e = inr (in_got xs k x e)

  pub all_from_in : (P : A → Type 0) (xs : List A) → ((x : A) → In x xs → P x) → AllByRecursion P xs
  all_from_in P [] h = tt
  all_from_in P (x ∷ xs) h = (h x (inl refl), all_from_in P xs (λ y p. h y (inr p)))

  pub in_all : (P : A → Type 0) (xs : List A) → AllByRecursion P xs → (x : A) → In x xs → P x
  in_all P [] h x p = absurd p
  in_all P (y ∷ xs) h x (inl e) = subst P (sym e) h.0
  in_all P (y ∷ xs) h x (inr p) = in_all P xs h.1 x p

  pub in_given : (b : Bool) (x y : A) → In y (given b x) → (b ≡ true) × (y ≡ x)
  in_given true x y (inl e) = (refl, e)
  in_given true x y (inr h) = absurd h
  in_given false x y h = absurd h

  pub given_has : (b : Bool) (x : A) → b ≡ true → In x (given b x)
  given_has true x e = inl refl
  given_has false x e = cc

module _ {A B : Type 0} where
  pub along-append : (g : List A → A → List B) (before xs ys : List A) → along g before (xs ++ ys) ≡ along g before xs ++ along g (before ++ xs) ys
  along-append g before [] ys = ap (λ l. along g l ys) (sym (append-nil before))
  along-append g before (x ∷ xs) ys =
      ap (λ l. g before x ++ l) (along-append g (before ++ x ∷ []) xs ys)
      ∙ ap (λ l. g before x ++ (along g (before ++ x ∷ []) xs ++ along g l ys)) (append_assoc before (x ∷ []) xs)
      ∙ sym (append_assoc (g before x) (along g (before ++ x ∷ []) xs) (along g (before ++ (x ∷ xs)) ys))

  -- one element more
  pub along_push : (g : List A → A → List B) (xs : List A) (x : A) → along g [] (xs ++ x ∷ []) ≡ along g [] xs ++ g xs x
  along_push g xs x = along-append g [] xs (x ∷ []) ∙ ap (λ l. along g [] xs ++ l) (append-nil (g xs x))

  pub along_take : (g : List A → A → List B) (xs : List A) (i : ℕ) (d : A) → i < length xs
      → along g [] (take (i + 1) xs) ≡ along g [] (take i xs) ++ g (take i xs) (get_or xs i d)
  along_take g xs i d h = ap (along g []) (take_more xs i d h) ∙ along_push g (take i xs) (get_or xs i d)

  pub along_same : (g h : List A → A → List B) (before xs : List A) → ((front : List A) (x : A) → In x xs → g front x ≡ h front x) → along g before xs ≡ along h before xs
  along_same g h before [] e = refl
  along_same g h before (x ∷ xs) e =
      ap (λ l. l ++ along g (before ++ x ∷ []) xs) (e before x (inl refl))
      ∙ ap (λ l. h before x ++ l) (along_same g h (before ++ x ∷ []) xs (λ front y p. e front y (inr p)))

  pub along_none : (g : List A → A → List B) (before xs : List A) → ((front : List A) (x : A) → In x xs → g front x ≡ []) → along g before xs ≡ []
  along_none g before [] e = refl
  along_none g before (x ∷ xs) e = rw (e before x (inl refl)) (along_none g (before ++ x ∷ []) xs (λ front y p. e front y (inr p)))

  -- where it does not matter what stands before
  pub along_flat_map : (f : A → List B) (before xs : List A) → along (λ _ x. f x) before xs ≡ flat_map f xs
  along_flat_map f before [] = refl
  along_flat_map f before (x ∷ xs) = ap (λ l. f x ++ l) (along_flat_map f (before ++ x ∷ []) xs)

  pub flat_map_push : (f : A → List B) (xs : List A) (x : A) → flat_map f (xs ++ x ∷ []) ≡ flat_map f xs ++ f x
  flat_map_push f xs x = flat_map-append f xs (x ∷ []) ∙ ap (λ l. flat_map f xs ++ l) (append-nil (f x))

  pub flat_map_take : (f : A → List B) (xs : List A) (i : ℕ) (d : A) → i < length xs → flat_map f (take (i + 1) xs) ≡ flat_map f (take i xs) ++ f (get_or xs i d)
  flat_map_take f xs i d h = ap (flat_map f) (take_more xs i d h) ∙ flat_map_push f (take i xs) (get_or xs i d)

  -- what is in such a list

  pub along_has : (g : List A → A → List B) (before front : List A) (x : A) (back : List A) (y : B) → In y (g (before ++ front) x) → In y (along g before (front ++ (x ∷ back)))
  along_has g before front x back y h =
      rw (along-append g before front (x ∷ back))
      (in_right y (along g before front) (along g (before ++ front) (x ∷ back)) (in_left y (g (before ++ front) x) (along g (before ++ front ++ x ∷ []) back) h))

  found_later : (g : List A → A → List B) (before : List A) (x : A) (xs : List A) (y : B) → Found g (before ++ x ∷ []) xs y → Found g before (x ∷ xs) y
  found_later g before x xs y f =
      record { front = x ∷ f.front; at = f.at; back = f.back; stands = ap (λ l. x ∷ l) f.stands; within = rw append_assoc at f.within }

  pub in_along : (g : List A → A → List B) (before xs : List A) (y : B) → In y (along g before xs) → Found g before xs y
  in_along g before [] y h = absurd h
  in_along g before (x ∷ xs) y h =
      ⊎_elim
      (λ p. record { front = []; at = x; back = xs; stands = refl; within = rw (append-nil before) p })
      (λ p. found_later g before x xs y (in_along g (before ++ x ∷ []) xs y p))
      (in_cases y (g before x) (along g (before ++ x ∷ []) xs) h)

  pub flat_map_has : (f : A → List B) (xs : List A) (x : A) (y : B) → In x xs → In y (f x) → In y (flat_map f xs)
  flat_map_has f [] x y p h = absurd p
  flat_map_has f (z ∷ xs) x y (inl e) h = in_left y (f z) (flat_map f xs) (subst (λ w. In y (f w)) e h)
  flat_map_has f (z ∷ xs) x y (inr p) h = in_right y (f z) (flat_map f xs) (flat_map_has f xs x y p h)

  pub in_flat_map : (f : A → List B) (xs : List A) (y : B) → In y (flat_map f xs) → FoundBy f xs y
  in_flat_map f [] y h = absurd h
  in_flat_map f (x ∷ xs) y h =
      ⊎_elim
      (λ p. record { at = x; stands = inl refl; within = p })
      (λ p. let w = in_flat_map f xs y p in record { at = w.at; stands = inr w.stands; within = w.within })
      (in_cases y (f x) (flat_map f xs) h)
