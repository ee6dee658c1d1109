-- What a look-up by list and code finds. Assumes nothing.
use Rattle.std.proofs.Common.{◌≡◌, ℕ, false, List, arith}
use Rattle.std.proofs.lemmas.Bool.Decides.{nat_tests}
use Rattle.std.specs.BTreeMap.{is_at}
use Rattle.std.specs.Map.{lookup}
use Rattle.std.specs.Option.{option_map}
use Rattle.calendar.specs.Calendar.{Date}
use Rattle.lists.proofs.Wording.{bytes_compared}
use Rattle.lists.specs.Codes.{code_cmp}
use Rattle.lists.specs.Entries.{dates_of}
use Rattle.lists.specs.Kept.{bounds_of_entries}
use Rattle.lists.specs.Lists.{may_be_listed}
use Rattle.lists.specs.Making.{is_code}
use Rattle.lists.specs.Spans.{has_day}
use Rattle.lists.specs.declared.listed_code.ListedCode.{ListedCode}
use Rattle.lists.specs.declared.span.Span.{Span}

pub same_test : (k j : ListedCode) → is_at (code_cmp k) j ≡ is_code k.list k.code j
same_test k j = let b = bytes_compared k.code j.code in grind (arith, nat_tests, b)

pub looked_up : (k : ListedCode) (es : List (ListedCode × Span)) → lookup (is_at (code_cmp k)) es ≡ lookup (is_code k.list k.code) es
looked_up k es = λ i. lookup (λ j. same_test k j i) es

pub unlisted : (es : List (ListedCode × Span)) (list : ℕ) (code : List ℕ) (date : Date) → may_be_listed list code ≡ false
    → has_day date (option_map dates_of (lookup (is_code list code) es)) ≡ false
unlisted es list code date h = let k = bounds_of_entries es list code date in grind (arith, k)
