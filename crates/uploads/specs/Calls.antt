-- A call of the relay. Assumes nothing.
--     Told                      a call without its loans: sender, receipt day, upload, verdict rows
--     call_of c                 what a call hands over
--     least_rows                a call lends at least so many verdict rows: as many as an upload may have records
--     most_bytes                the greatest length of an upload
--     is_sender bs              whether the bytes are ten of A to Z and 0 to 9
--     right_day c               the receipt day, if the call is right: sender and day are, and the rows suffice
--     right_length u            whether an upload has a length within the limits
use Rattle.std.specs.Prelude.{ℕ, Bool, ◌&&◌, ◌||◌, if◌then◌else◌, List, length, Option, None, ◌==◌, nat_le}
use Rattle.std.specs.List.{list_all}
use Rattle.calendar.specs.Calendar.{Date}
use Rattle.calendar.specs.Written.{date_in}
use Rattle.grammar.specs.Bytes.{is_sign}
use Rattle.uploads.specs.declared.calls.Call.{Call}

pub record Told : Type 0 where
  pub sender : List ℕ
  pub day : List ℕ
  pub upload : List ℕ
  pub rows : ℕ

abbrev pub call_of : Call → Told
call_of c = record { sender = c.sender.now; day = c.day.now; upload = c.upload.now; rows = c.rows }

abbrev pub least_rows : ℕ
least_rows = 4096

abbrev pub most_bytes : ℕ
most_bytes = 1048576

abbrev pub is_sender : List ℕ → Bool
is_sender bs = length bs == 10 && list_all is_sign bs

abbrev pub right_day : Told → Option Date
right_day c = if is_sender c.sender && nat_le least_rows c.rows then date_in c.day else None

abbrev pub right_length : List ℕ → Bool
right_length u = nat_le 1 (length u) && nat_le (length u) most_bytes
