-- Rows of code lists. Assumes nothing.
--     span_of r          the span that the row r writes, if it writes one
--     is_lawful r        r is lawful by itself: its list and code may be, and it writes a span
--     row_cmp r s        how r and s compare: as their lists and codes do
--     is_lawful_at rs i  so is the row at i
--     rises rs j i       the row at i is above the row at j
--     is_bad rs i        the row at i is not lawful by itself, or not above the row before it
--     NoneIsBad rs       no row is bad
--     IsFirstBad rs i    the row at i is bad, and none before it
--     row_says r         what the row r says: it has the list and the code, and its span has the day
--     says rs            what the rows say: one of them says so
use Rattle.std.specs.Prelude.{◌≡◌, ℕ, ◌-◌, ◌<◌, Bool, false, true, not, ◌&&◌, ◌||◌, ◌==◌, List, length, Option, is_some, nat_lt, slice_get}
use Rattle.std.specs.declared.cmp.Ordering.{Ordering}
use Rattle.std.specs.List.{list_any}
use Rattle.std.specs.Option.{option_map_or}
use Rattle.std.specs.Ordering.{on, is_lt}
use Rattle.std.specs.Str.{bytes_eq}
use Rattle.calendar.specs.Calendar.{Date}
use Rattle.lists.specs.Lists.{Meaning, may_be_listed}
use Rattle.lists.specs.Order.{listed_cmp}
use Rattle.lists.specs.Spans.{span_in, has_day}
use Rattle.lists.specs.declared.row.Row.{Row}

abbrev pub span_of : Row → Option (Date × Date)
span_of r = span_in r.first.now r.last.now

abbrev pub is_lawful : Row → Bool
is_lawful r = may_be_listed r.list r.code.now && is_some (span_of r)

abbrev pub row_cmp : Row → Row → Ordering
row_cmp = on (λ r. (r.list, r.code.now)) listed_cmp

abbrev pub is_lawful_at : List Row → ℕ → Bool
is_lawful_at rs i = option_map_or is_lawful (slice_get rs i) false

abbrev pub rises : List Row → ℕ → ℕ → Bool
rises rs j i = option_map_or (λ r. option_map_or (λ s. is_lt (row_cmp r s)) (slice_get rs i) false) (slice_get rs j) false

unfoldable pub is_bad : List Row → ℕ → Bool
is_bad rs i = not (is_lawful_at rs i) || (nat_lt 0 i && not (rises rs (i - 1) i))

abbrev pub NoneIsBad : List Row → Type 0
NoneIsBad rs = (i : ℕ) → i < length rs → is_bad rs i ≡ false

pub record IsFirstBad (rs : List Row) (i : ℕ) : Type 0 where
  pub within : i < length rs
  pub bad : is_bad rs i ≡ true
  pub first : (j : ℕ) → j < i → is_bad rs j ≡ false

abbrev pub row_says : Row → Meaning
row_says r list code date = list == r.list && bytes_eq code r.code.now && has_day date (span_of r)

abbrev pub says : List Row → Meaning
says rs list code date = list_any (λ r. row_says r list code date) rs
