-- Codes with their lists. Assumes nothing.
--     code_cmp c d   how c and d compare
use Rattle.std.specs.declared.cmp.Ordering.{Ordering}
use Rattle.std.specs.Ordering.{on}
use Rattle.lists.specs.Order.{listed_cmp}
use Rattle.lists.specs.declared.listed_code.ListedCode.{ListedCode}

abbrev pub code_cmp : ListedCode → ListedCode → Ordering
code_cmp = on (λ c. (c.list, c.code)) listed_cmp
