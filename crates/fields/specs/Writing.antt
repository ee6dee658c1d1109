-- What stands in the fields of amounts and quantities, told without a test. Assumes nothing.
--     Amount n v    v is written as an amount of at most n bytes: digits, or a minus and digits
--     Quantity v    v is written as a quantity: one to five digits, or these, a point and one digit
--     Writing       the tests of the forms tell these
--     Samples       values that are written so, and some that are not
use Rattle.std.specs.Prelude.{◌≡◌, ℕ, ◌-◌, true, false, IsTrue, Decides, List, ◌∷◌, ◌++◌, [], codes}
use Rattle.calendar.specs.Digits.{is_digit}
use Rattle.fields.specs.Forms.{is_number, is_amount, is_quantity}

pub data Amount (n : ℕ) : List ℕ → Type 0 where
  plain : (v : List ℕ) → IsTrue (is_number n v) → Amount n v
  minus : (v : List ℕ) → IsTrue (is_number (n - 1) v) → Amount n (45 ∷ v)

pub data Quantity : List ℕ → Type 0 where
  whole : (v : List ℕ) → IsTrue (is_number 5 v) → Quantity v
  tenths : (v : List ℕ) (d : ℕ) → IsTrue (is_number 5 v) → IsTrue (is_digit d) → Quantity (v ++ (46 ∷ d ∷ []))

pub record Writing : Type 0 where
  pub amount : (n : ℕ) (v : List ℕ) → Decides (is_amount n v) (Amount n v)
  pub quantity : (v : List ℕ) → Decides (is_quantity v) (Quantity v)

pub record Samples : Type 0 where
  pub zero : is_amount 8 (codes "-0") ≡ true
  pub minus_alone : is_amount 8 (codes "-") ≡ false
  pub minus_counted : is_amount 8 (codes "-12345678") ≡ false
  pub five : is_quantity (codes "5") ≡ true
  pub most : is_quantity (codes "99999.9") ≡ true
  pub no_tenth : is_quantity (codes "5.") ≡ false
  pub no_whole : is_quantity (codes ".5") ≡ false
  pub six_digits : is_quantity (codes "123456") ≡ false
