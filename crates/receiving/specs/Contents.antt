-- What an upload holds, read off its bytes, and what its records file. Assumes nothing.
--     records_in u       the records of the upload u, in their order; none, if it is not lawful. They are read by the way that the test for lawful uploads gives; any other gives the same (`read` of `receive`)
--     Read u             so it is
--     values_of x        the values of the fields of header and visit
--     filing_of s x      what the record x of the sender s files
--     key_place x        where the value of M15 stands
--     option_list o      the value, if there is one
use Rattle.std.specs.Prelude.{◌≡◌, ℕ, Bool, true, false, List, [], ◌∷◌, Option, Some, None, refl}
use Rattle.grammar.specs.Grammar.{Lawful}
use Rattle.grammar.specs.Items.{items_of}
use Rattle.grammar.specs.Threads.{is_lawful}
use Rattle.grammar.proofs.Tested.{lawful_from_test}
use Rattle.records.specs.Records.{Record, records_of}
use Rattle.fields.specs.declared.field.Field.TheVariants.{M15}
use Rattle.cells.specs.Filled.{value_of, cell_of, first_in}
use Rattle.filings.specs.Filings.{Values, filing_in}
use Rattle.filings.specs.declared.filing.Filing.{Filing}

unfoldable pub read_if : (u : List ℕ) (b : Bool) → is_lawful u ≡ b → List Record
read_if u true e = records_of (items_of (lawful_from_test u e))
read_if u false e = []

unfoldable pub records_in : List ℕ → List Record
records_in u = read_if u (is_lawful u) refl

abbrev pub Read : List ℕ → Type 0
Read u = (l : Lawful u) → records_in u ≡ records_of (items_of l)

abbrev pub values_of : Record → Values
values_of x f = value_of (first_in x [] f)

abbrev pub filing_of : List ℕ → Record → Option Filing
filing_of s x = filing_in s (values_of x)

abbrev pub key_place : Record → ℕ
key_place x = (cell_of (first_in x [] M15)).place

abbrev pub option_list : {A : Type 0} → Option A → List A
option_list None = []
option_list (Some a) = a ∷ []
