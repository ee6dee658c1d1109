-- Uses: one register is made, and then only receives. What every use may rely on. Assumes nothing.
--     Reaches n h c            a use whose register was made for n entries has the history h, and the register holds c
--     SameCalls k a b          two calls of the sender k are alike: day, upload, numbers of rows, and what the code lists say
--     SameEvents k g h e f     e after g and f after h are such calls; at each of their records the same is seen of what stands; and no record of either finds the register full
--     Alike k g h              two histories are so for the sender k, call by call, whatever other senders sent
--     SameFor k g c h d        then k got the same replies and the same rows in both, and looking up its keys gives the same in the registers c and d
--     UseLaws c e d            what holds where a register that held c has the event e, and then holds d: for every use that led to c
--         goes_on              e goes on with the use
--         stands               looking up gives what stands
--         sound                no refill is taken twice, and no dispensing of a cancelled prescription stands
--         alike                whatever else the other senders sent, a sender has the same replies, rows and entries
--     LookUpLaws c k o         what holds where looking up k in c gives o: for every use that led to c
use Rattle.std.specs.Prelude.{◌≡◌, ◌≢◌, ◌↔◌, ℕ, List, Option, Some}
use Rattle.calendar.specs.Calendar.{Date}
use Rattle.uploads.specs.Calls.{right_day}
use Rattle.faults.specs.Along.{In}
use Rattle.faults.specs.declared.rules.Rule.TheVariants.{NoRoom}
use Rattle.register.specs.Contents.{Contents, begun}
use Rattle.register.specs.declared.entry.Entry.{Entry}
use Rattle.register.specs.declared.key.Key.{Key}
use Rattle.settling.specs.Standing.{Standing, Holds, Sound}
use Rattle.receiving.specs.Contents.{records_in}
use Rattle.receiving.specs.Events.{Call, Event, History, begin, followed, accepted, own}
use Rattle.receiving.specs.Receiving.{told_of, setting_on, Received}
use Rattle.receiving.specs.Sights.{Sights}

pub data Reaches (n : ℕ) : History → Contents → Type 0 where
  made : Reaches n begin (begun n)
  received : {h : History} {c d : Contents} {e : Event} → Reaches n h c → Received c e d → Reaches n (followed h e) d

pub record SameCalls (k : List ℕ) (a b : Call) : Type 0 where
  pub here : a.sender ≡ k
  pub there : b.sender ≡ k
  pub day : a.day ≡ b.day
  pub upload : a.upload ≡ b.upload
  pub verdict_rows : a.verdict_rows ≡ b.verdict_rows
  pub report_rows : a.report_rows ≡ b.report_rows
  pub listed : a.listed ≡ b.listed

pub record SameEvents (k : List ℕ) (g h : History) (e f : Event) : Type 0 where
  pub calls : SameCalls k e.call f.call
  pub sights : (d : Date) → right_day (told_of e.call) ≡ Some d
      → Sights (setting_on d e.call) k 1 (records_in e.call.upload) e.reply.verdicts f.reply.verdicts (accepted g) (accepted h)
  pub room_here : ¬ In (Some NoRoom) e.reply.verdicts
  pub room_there : ¬ In (Some NoRoom) f.reply.verdicts

pub data Alike (k : List ℕ) : History → History → Type 0 where
  begin_both : Alike k begin begin
  other_here : {g h : History} {e : Event} → Alike k g h → e.call.sender ≢ k → Alike k (followed g e) h
  other_there : {g h : History} {f : Event} → Alike k g h → f.call.sender ≢ k → Alike k g (followed h f)
  both : {g h : History} {e f : Event} → Alike k g h → SameEvents k g h e f → Alike k (followed g e) (followed h f)

pub record SameFor (k : List ℕ) (g : History) (c : Contents) (h : History) (d : Contents) : Type 0 where
  pub replies : own k g ≡ own k h
  pub entries : (j : Key) → j.sender ≡ k → c.at j ≡ d.at j

pub record UseLaws (c : Contents) (e : Event) (d : Contents) : Type 0 where
  pub goes_on : (n : ℕ) (h : History) → Reaches n h c → Reaches n (followed h e) d
  pub stands : (n : ℕ) (h : History) → Reaches n h c → Holds (accepted (followed h e)) d
  pub sound : (n : ℕ) (h : History) → Reaches n h c → Sound (accepted (followed h e))
  pub alike : (n m : ℕ) (g h : History) (b : Contents) (k : List ℕ) → Reaches n g c → Reaches m h b → Alike k (followed g e) h → SameFor k (followed g e) d h b

pub record LookUpLaws (c : Contents) (k : Key) (o : Option Entry) : Type 0 where
  pub stands : (n : ℕ) (h : History) → Reaches n h c → (e : Entry) → (o ≡ Some e) ↔ Standing (accepted h) k e
  pub alike : (n m : ℕ) (g h : History) (b : Contents) → Reaches n g c → Reaches m h b → Alike k.sender g h → o ≡ b.at k
