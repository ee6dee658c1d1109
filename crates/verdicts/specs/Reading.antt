-- A record as an upload gives it. Assumes nothing.
--     Opened v u s r    v is what is seen of the record before its orders, and u the upload that it is read from
use Rattle.std.specs.Prelude.{◌≡◌, ℕ, List, []}
use Rattle.records.specs.Reading.{part_upload, record_of}
use Rattle.rules.specs.Views.{View}
use Rattle.verdicts.specs.Sights.{Setting, view}
use Rattle.records.specs.declared.passing.OpenRecord.{OpenRecord}

pub record Opened (v : View) (upload : List ℕ) (s : Setting) (r : OpenRecord) : Type 0 where
  pub sight : v ≡ view s (record_of r) [] []
  pub reads : upload ≡ part_upload r.header
