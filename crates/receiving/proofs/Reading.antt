-- The records that an upload holds, read by any way. Assumes nothing.
use Rattle.std.proofs.Common.{◌≡◌, ℕ, Bool, true, false, List, refl, sym, ◌∙◌}
use Rattle.std.proofs.lemmas.Bool.{true≢false}
use Rattle.grammar.proofs.Tested.{lawful_from_test, test_from_lawful}
use Rattle.grammar.specs.Grammar.{Lawful}
use Rattle.grammar.specs.Items.{items_of}
use Rattle.grammar.specs.Threads.{is_lawful}
use Rattle.records.specs.Records.{Record, records_of}
use Rattle.receiving.specs.Contents.{read_if, records_in, Read}

-- what holds of the records that each way gives holds of these
module _ (P : List Record → Type 0) (u : List ℕ) where
  by_test : is_lawful u ≡ true → ((l : Lawful u) → P (records_of (items_of l))) → (b : Bool) (e : is_lawful u ≡ b) → P (read_if u b e)
  unfolding read_if
  by_test t h true e = h (lawful_from_test u e)
  by_test t h false e = absurd (true≢false (sym t ∙ e))

  pub in_each : is_lawful u ≡ true → ((l : Lawful u) → P (records_of (items_of l))) → P (records_in u)
  unfolding records_in
  in_each t h = by_test t h (is_lawful u) refl

pub read : (u : List ℕ) → ((l m : Lawful u) → records_of (items_of l) ≡ records_of (items_of m)) → Read u
read u same l = in_each (λ rs. rs ≡ records_of (items_of l)) u (test_from_lawful u l) (λ m. same m l)
