-- A category is what its code names, and nothing else. Assumes nothing.
use Rattle.std.proofs.Common.{◌≡◌, ℕ, List, [], ◌∷◌, Some, refl, arith}
use Rattle.std.proofs.lemmas.Bool.Decides.{nat_tests}
use Rattle.fields.specs.Categories.{code_of, in_zero, in_a, in_b, in_c, in_d, in_e, category_of, category_in}
use Rattle.fields.specs.Inverse.{Inverse}
use Rattle.fields.specs.declared.category.Category.{Category}
use Rattle.fields.specs.declared.category.Category.TheVariants.{C01, C02, C03, C04, C05, C06, C07, C08, C09, AJ, AA, AB, AC, AD, AE, AF, AG, AH, AI, BA, BB, BC, BD, BE, BF, CA, DA, DB, DC, AK, EA}

named : (k : Category) → category_in (code_of k) ≡ Some k
named C01 = refl
named C02 = refl
named C03 = refl
named C04 = refl
named C05 = refl
named C06 = refl
named C07 = refl
named C08 = refl
named C09 = refl
named AJ = refl
named AA = refl
named AB = refl
named AC = refl
named AD = refl
named AE = refl
named AF = refl
named AG = refl
named AH = refl
named AI = refl
named BA = refl
named BB = refl
named BC = refl
named BD = refl
named BE = refl
named BF = refl
named CA = refl
named DA = refl
named DB = refl
named DC = refl
named AK = refl
named EA = refl

only_in_zero : (b : ℕ) (k : Category) → in_zero b ≡ Some k → code_of k ≡ 48 ∷ b ∷ []
only_in_zero b k e = grind (arith, nat_tests)

only_in_a : (b : ℕ) (k : Category) → in_a b ≡ Some k → code_of k ≡ 65 ∷ b ∷ []
only_in_a b k e = grind (arith, nat_tests)

only_in_b : (b : ℕ) (k : Category) → in_b b ≡ Some k → code_of k ≡ 66 ∷ b ∷ []
only_in_b b k e = grind (arith, nat_tests)

only_in_c : (b : ℕ) (k : Category) → in_c b ≡ Some k → code_of k ≡ 67 ∷ b ∷ []
only_in_c b k e = grind (arith, nat_tests)

only_in_d : (b : ℕ) (k : Category) → in_d b ≡ Some k → code_of k ≡ 68 ∷ b ∷ []
only_in_d b k e = grind (arith, nat_tests)

only_in_e : (b : ℕ) (k : Category) → in_e b ≡ Some k → code_of k ≡ 69 ∷ b ∷ []
only_in_e b k e = grind (arith, nat_tests)

only_of : (a b : ℕ) (k : Category) → category_of a b ≡ Some k → code_of k ≡ a ∷ b ∷ []
only_of a b k e = grind (arith, nat_tests, only_in_zero b k, only_in_a b k, only_in_b b k, only_in_c b k, only_in_d b k, only_in_e b k)

only : (bs : List ℕ) (k : Category) → category_in bs ≡ Some k → code_of k ≡ bs
only [] k e = grind arith
only (a ∷ []) k e = grind arith
only (a ∷ b ∷ []) k e = only_of a b k e
only (a ∷ b ∷ c ∷ bs) k e = grind (arith, nat_tests)

pub inverse : Inverse code_of category_in
inverse = record { named = named; only = only }
