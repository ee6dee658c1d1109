-- What is kept of a row. Assumes nothing.
--     dates_of s     the dates of a span
--     IsEntry r e    the code and the span e are those of the row r
use Rattle.std.specs.Prelude.{◌≡◌, Some}
use Rattle.calendar.specs.Calendar.{Date}
use Rattle.calendar.specs.Days.{date_of}
use Rattle.lists.specs.Rows.{span_of}
use Rattle.lists.specs.declared.listed_code.ListedCode.{ListedCode}
use Rattle.lists.specs.declared.row.Row.{Row}
use Rattle.lists.specs.declared.span.Span.{Span}

abbrev pub dates_of : Span → Date × Date
dates_of s = (date_of s.first, date_of s.last)

pub record IsEntry (r : Row) (e : ListedCode × Span) : Type 0 where
  pub list : e.0.list ≡ r.list
  pub code : e.0.code ≡ r.code.now
  pub span : span_of r ≡ Some (dates_of e.1)
