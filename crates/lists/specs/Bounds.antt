-- The codes that lists have by shape are of the lists and lengths that there are. Assumes nothing.
use Rattle.std.proofs.Common.{◌≡◌, ℕ, Bool, true, false, ◌&&◌, ◌||◌, ◌==◌, List, [], ◌∷◌, length, refl, arith}
use Rattle.std.proofs.lemmas.Bool.{false≢true}
use Rattle.std.proofs.lemmas.Bool.Decides.{nat_tests}
use Rattle.std.proofs.lemmas.Slice.Eq.{bytes_eq-Decides}
use Rattle.std.specs.List.{list_all, list_any}
use Rattle.std.specs.Prelude.{IsTrue}
use Rattle.std.specs.Str.{bytes_eq}
use Rattle.calendar.specs.Calendar.{Date}
use Rattle.grammar.specs.Bytes.{within, is_sign}
use Rattle.lists.specs.Lists.{may_be_listed}
use Rattle.lists.specs.Shapes.{visit_numbers, shaped}

length_among : (n : ℕ) (vs : List (List ℕ)) (c : List ℕ) → list_all (λ v. length v == n) vs ≡ true
    → list_any (λ v. bytes_eq v c) vs ≡ true → length c ≡ n
length_among n [] c all any = absurd (false≢true any)
length_among n (v ∷ vs) c all any = let more = length_among n vs c in grind (arith, nat_tests, more, bytes_eq-Decides v c)

bounds : (list : ℕ) (code : List ℕ) (s v : Bool) → (v ≡ true → length code ≡ 4)
    → ((within 1 6 list && (may_be_listed list code && s)) || (list == 7 && v)) ≡ true → may_be_listed list code ≡ true
bounds list code s true four h = let len = four refl in grind (arith, nat_tests)
bounds list code s false four h = grind (arith, nat_tests)

pub bounds_of_shaped : (list : ℕ) (code : List ℕ) (date : Date) → IsTrue (shaped list code date) → IsTrue (may_be_listed list code)
bounds_of_shaped list code date h = bounds list code (list_all is_sign code) _ (length_among 4 visit_numbers code refl) h
