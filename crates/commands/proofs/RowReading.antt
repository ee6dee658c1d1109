-- A row is read just from the lines that write it. Assumes nothing.
use Rattle.std.proofs.Common.{◌≡◌, ℕ, ◌<◌, Bool, true, false, cond, List, [], ◌∷◌, Result, Ok, Err, nat_lt, refl, arith}
use Rattle.std.proofs.lemmas.Bool.Decides.{nat_tests}
use Rattle.commands.specs.Lines.{Reads}
use Rattle.commands.specs.Malformed.{if_ok}
use Rattle.commands.specs.Numbers.{number_in, value_of}
use Rattle.commands.specs.Rows.{ToldRow, WritesRow, fields, row_of, row_in}
use Rattle.commands.specs.declared.malformed.Malformed.{Malformed}
use Rattle.commands.specs.declared.malformed.Malformed.TheVariants.{Number}
use Rattle.commands.proofs.Joining.{reads_lines}
use Rattle.commands.proofs.Reading.{numeral}

abbrev row_with : List ℕ → List ℕ → List ℕ → ℕ → ToldRow
row_with code first last n = record { list = n; code = code; first = first; last = last }

small_from : (b : Bool) (m : ℕ) (f : ℕ → Result ToldRow Malformed) (r : ToldRow) → if_ok (cond b (Ok m) (Err Number)) f ≡ Ok r → (b ≡ true) × (f m ≡ Ok r)
small_from true m f r h = (refl, h)
small_from false m f r h = absurd (cc)

byte_from : (n : Result ℕ Malformed) (f : ℕ → Result ToldRow Malformed) (r : ToldRow)
    → if_ok (if_ok n (λ m. cond (nat_lt m 256) (Ok m) (Err Number))) f ≡ Ok r → if_ok n (λ m. if_ok (cond (nat_lt m 256) (Ok m) (Err Number)) f) ≡ Ok r
byte_from (Ok m) f r h = h
byte_from (Err e) f r h = absurd (cc)

written : (ws : List (List ℕ)) (r : ToldRow) → row_of ws ≡ Ok r → WritesRow r ws
written [] r h = absurd (cc)
written (n ∷ []) r h = absurd (cc)
written (n ∷ c ∷ []) r h = absurd (cc)
written (n ∷ c ∷ f ∷ []) r h = absurd (cc)
written (n ∷ c ∷ f ∷ l ∷ []) r h =
    let make : ℕ → Result ToldRow Malformed = λ m. Ok (row_with c f l m) in
    let p = numeral n (λ m. if_ok (cond (nat_lt m 256) (Ok m) (Err Number)) make) r (byte_from (number_in n) make r h) in
    let q = small_from (nat_lt (value_of n) 256) (value_of n) make r p.1 in
    let is : row_with c f l (value_of n) ≡ r = cc in
    let small : value_of n < 256 = grind (arith, nat_tests, q.0) in
    rw (← is) (fields p.0 small)
written (n ∷ c ∷ f ∷ l ∷ w ∷ ws) r h = absurd (cc)

back : (r : ToldRow) (ws : List (List ℕ)) → WritesRow r ws → row_of ws ≡ Ok r
back _ _ (fields {n = n} d small) =
    let low : nat_lt (value_of n) 256 ≡ true = grind (arith, nat_tests, small) in
    rw (d, low) refl

pub reads : (line : List ℕ) (r : Result ToldRow Malformed) → r ≡ row_in line → Reads WritesRow line r
reads line r h = reads_lines (record { written = written; back = back; none = refl }) line r h
