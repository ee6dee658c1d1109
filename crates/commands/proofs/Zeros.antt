-- Zero bytes at the end. Assumes nothing.
use Rattle.std.proofs.Common.{◌≡◌, ℕ, zero, suc, ◌-◌, ◌<◌, ◌≤◌, ◌≢◌, List, [], ◌∷◌, ◌++◌, length, take, get_or, refl, ap, ◌∙◌, add-one, arith}
use Rattle.std.proofs.lemmas.Bool.Decides.{nat_tests}
use Rattle.std.proofs.lemmas.List.{take_more}
use Rattle.commands.specs.Texts.{before, without_zeros}

before_some : (b c : ℕ) (xs : List ℕ) → before b (xs ++ c ∷ []) ≡ b ∷ (xs ++ c ∷ [])
before_some b c [] = refl
before_some b c (x ∷ xs) = refl

dropped : (xs : List ℕ) → without_zeros (xs ++ 0 ∷ []) ≡ without_zeros xs
dropped [] = refl
dropped (x ∷ xs) = ap (before x) (dropped xs)

kept : (xs : List ℕ) (n : ℕ) → without_zeros (xs ++ suc n ∷ []) ≡ xs ++ suc n ∷ []
kept [] n = grind (arith, nat_tests)
kept (x ∷ xs) n = ap (before x) (kept xs n) ∙ before_some x (suc n) xs

last_of : (bs : List ℕ) (e : ℕ) → 0 < e → e ≤ length bs → take e bs ≡ take (e - 1) bs ++ get_or bs (e - 1) 0 ∷ []
last_of bs zero some within = absurd (omega arith)
last_of bs (suc e) some within = let here : suc e - 1 ≡ e = omega arith in rw (here, ← add-one) (take_more bs e 0 (omega arith))

pub dropped_at : (bs : List ℕ) (e : ℕ) → 0 < e → e ≤ length bs → get_or bs (e - 1) 0 ≡ 0 → without_zeros (take e bs) ≡ without_zeros (take (e - 1) bs)
dropped_at bs e some within is = rw (last_of bs e some within, is) (dropped (take (e - 1) bs))

kept_last : (xs : List ℕ) (b : ℕ) → b ≢ 0 → without_zeros (xs ++ b ∷ []) ≡ xs ++ b ∷ []
kept_last xs zero some = absurd (some refl)
kept_last xs (suc n) some = kept xs n

pub kept_at : (bs : List ℕ) (e : ℕ) → 0 < e → e ≤ length bs → get_or bs (e - 1) 0 ≢ 0 → without_zeros (take e bs) ≡ take e bs
kept_at bs e some within is = rw (last_of bs e some within) (kept_last (take (e - 1) bs) (get_or bs (e - 1) 0) is)

pub none_left : (bs : List ℕ) (e : ℕ) → e ≤ 0 → without_zeros (take e bs) ≡ take e bs
none_left bs zero none = refl
none_left bs (suc e) none = absurd (omega arith)
