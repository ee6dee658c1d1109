-- The codes that are kept are of the lists and lengths that there are. Assumes nothing.
use Rattle.std.proofs.Common.{◌≡◌, ℕ, Bool, cond, Option, Some, refl, true, false, List, [], ◌∷◌, arith}
use Rattle.std.proofs.lemmas.Bool.{false≢true}
use Rattle.std.proofs.lemmas.Bool.Decides.{nat_tests}
use Rattle.std.proofs.lemmas.Slice.Eq.{bytes_eq-Decides}
use Rattle.std.specs.Map.{lookup}
use Rattle.std.specs.Option.{option_map}
use Rattle.std.specs.Prelude.{IsTrue}
use Rattle.calendar.specs.Calendar.{Date}
use Rattle.lists.specs.Entries.{dates_of}
use Rattle.lists.specs.Lists.{may_be_listed}
use Rattle.lists.specs.Making.{is_code}
use Rattle.lists.specs.Spans.{has_day}
use Rattle.lists.specs.declared.listed_code.ListedCode.{ListedCode}
use Rattle.lists.specs.declared.span.Span.{Span}

pub listed_as : (list : ℕ) (code : List ℕ) (c : ListedCode) → is_code list code c ≡ true → may_be_listed list code ≡ true
listed_as list code c h = let k = c.listed in grind (arith, nat_tests, bytes_eq-Decides code c.code)

-- what a look-up finds is the first that passes or what it finds behind that
first_or_later : (b : Bool) (date : Date) (s : Span) (o : Option Span) (P : Type 0)
    → (b ≡ true → P) → (IsTrue (has_day date (option_map dates_of o)) → P)
    → IsTrue (has_day date (option_map dates_of (cond b (Some s) o))) → P
first_or_later true date s o P first later h = first refl
first_or_later false date s o P first later h = later h

pub bounds_of_entries : (es : List (ListedCode × Span)) (list : ℕ) (code : List ℕ) (date : Date)
    → IsTrue (has_day date (option_map dates_of (lookup (is_code list code) es))) → IsTrue (may_be_listed list code)
bounds_of_entries [] list code date h = absurd (false≢true h)
bounds_of_entries (e ∷ es) list code date h =
    first_or_later (is_code list code e.0) date e.1 (lookup (is_code list code) es) _ (listed_as list code e.0) (bounds_of_entries es list code date) h
