-- What the relay answers to a call, whatever way it reads. Assumes nothing.
--     Taken                  what is taken: the upload, its sender, the receipt day, the number of records
--     taken_of r             an answer without its loans
--     Sound c d              the call c is right, d its receipt day, and the upload has a right length
--     Within u               u is lawful and within its limits
--     Answer c r             r is the right answer to the call c
--     Answered c r           r is the right answer to it, and no other is
--     SpaceInDeclaration     an upload with a space before the ?> of its declaration is refused with number 2 at place 35
use Rattle.std.specs.Prelude.{◌≡◌, ℕ, true, false, List, ◌++◌, Some, None, Result, Ok, Err, codes}
use Rattle.calendar.specs.Calendar.{Date}
use Rattle.calendar.specs.Days.{date_of}
use Rattle.grammar.specs.Grammar.{Lawful}
use Rattle.grammar.specs.Items.{items_of}
use Rattle.reader.specs.Laws.{Law}
use Rattle.reader.specs.declared.faults.Refusal.{Refusal}
use Rattle.reader.specs.declared.faults.Refusal.TheVariants.{Length, Declaration, Foreign, TooMany, Call}
use Rattle.limits.specs.Records.{records_in}
use Rattle.limits.specs.Limits.{NoneBeyond, FirstBeyond, NoneForeign, FirstForeign}
use Rattle.uploads.specs.Calls.{Told, right_day, right_length}
use Rattle.uploads.specs.declared.upload.Upload.{Upload}

pub record Taken : Type 0 where
  pub upload : List ℕ
  pub sender : List ℕ
  pub day : Date
  pub records : ℕ

abbrev pub taken_of : Result Upload Refusal → Result Taken Refusal
taken_of (Ok u) = Ok (record { upload = u.file.bytes.now; sender = u.sender.now; day = date_of u.day; records = u.records })
taken_of (Err r) = Err r

pub record Sound (c : Told) (d : Date) : Type 0 where
  pub day : right_day c ≡ Some d
  pub length : right_length c.upload ≡ true

pub record Within (u : List ℕ) : Type 0 where
  pub lawful : Lawful u
  pub limits : (l : Lawful u) → NoneBeyond (items_of l)

pub data Answer (c : Told) : Result Taken Refusal → Type 0 where
  wrong_call : right_day c ≡ None → Answer c (Err Call)
  wrong_length : {d : Date} → right_day c ≡ Some d → right_length c.upload ≡ false → Answer c (Err Length)
  wrong_structure : {d : Date} {r : Refusal} → Sound c d → Law c.upload (Err r) → Answer c (Err r)
  too_many : {d : Date} {k : ℕ} → Sound c d → Lawful c.upload → ((l : Lawful c.upload) → FirstBeyond (items_of l) k) → Answer c (Err (TooMany k))
  foreign : {d : Date} {k : ℕ} → Sound c d → Within c.upload → ((l : Lawful c.upload) → FirstForeign c.sender (items_of l) k) → Answer c (Err (Foreign k))
  taken : {d : Date} {n : ℕ} → Sound c d → Within c.upload → ((l : Lawful c.upload) → NoneForeign c.sender (items_of l)) → ((l : Lawful c.upload) → n ≡ records_in (items_of l)) → Answer c (Ok (record { upload = c.upload; sender = c.sender; day = d; records = n }))

pub record Answered (c : Told) (r : Result Taken Refusal) : Type 0 where
  pub law : Answer c r
  pub only : (q : Result Taken Refusal) → Answer c q → r ≡ q

abbrev pub SpaceInDeclaration : Type 0
SpaceInDeclaration = (c : Told) (d : Date) (w : List ℕ) → Sound c d → c.upload ≡ codes "<?xml version=\"1.0\" encoding=\"Big5\" ?>" ++ w → Answered c (Err (Declaration 35))
