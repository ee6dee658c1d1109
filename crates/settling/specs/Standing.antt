-- What stands after accepted filings, told by them alone. Assumes nothing. qs are all that were accepted, in their order.
--     cancels k q        whether the filing q cancels what stands under the key k
--     ends k q           whether it ends that: a visit takes its place, or a deletion takes it away
--     Standing qs k e    the entry e stands under k, which is no placeholder: it is that of the last accepted visit of k, no accepted deletion followed, and it is marked exactly if an accepted cancellation did
--     DispensedBy qs k   a record under another key than k stands, and k is its origin
--     TakenBy qs k n j   a record under another key than j stands that takes the refill n of k
--     Holds qs c         the register c has the entries that stand, and no others
--     Sound qs           of what stands:
--         once           no refill of a prescription is taken by two records
--         open_only      no dispensing of a cancelled prescription stands
use Rattle.std.specs.Prelude.{◌≡◌, ◌≢◌, ◌↔◌, ℕ, Bool, true, false, IsTrue, ◌&&◌, List, ◌∷◌, ◌++◌, Some}
use Rattle.std.specs.List.{list_any}
use Rattle.register.specs.Contents.{Contents}
use Rattle.register.specs.Entries.{Takes}
use Rattle.register.specs.Identifiers.{is_placeholder}
use Rattle.register.specs.Keys.{same_key}
use Rattle.register.specs.Refills.{is_refill}
use Rattle.register.specs.declared.entry.Entry.{Entry}
use Rattle.register.specs.declared.key.Key.{Key}
use Rattle.filings.specs.declared.filing.Deed.{Deed}
use Rattle.filings.specs.declared.filing.Deed.TheVariants.{Visit, Cancel}
use Rattle.filings.specs.declared.filing.Filing.{Filing}
use Rattle.settling.specs.Settled.{marked}

abbrev pub is_cancellation : Deed → Bool
is_cancellation (Cancel p) = true
is_cancellation _ = false

abbrev pub is_end : Deed → Bool
is_end (Cancel p) = false
is_end _ = true

abbrev pub cancels : Key → Filing → Bool
cancels k q = same_key q.key k && is_cancellation q.deed

abbrev pub ends : Key → Filing → Bool
ends k q = same_key q.key k && is_end q.deed

pub record Standing (qs : List Filing) (k : Key) (e : Entry) : Type 0 where
  pub is_true : is_placeholder k.identifier ≡ false
  pub earlier : List Filing
  pub visit : Entry
  pub later : List Filing
  pub filed : qs ≡ earlier ++ (record { key = k; deed = Visit visit } ∷ later)
  pub last : list_any (ends k) later ≡ false
  pub entry : e ≡ marked (list_any (cancels k) later) visit

pub record DispensedBy (qs : List Filing) (k : Key) : Type 0 where
  pub by : Key
  pub other : by ≢ k
  pub entry : Entry
  pub stands : Standing qs by entry
  pub from : entry.origin ≡ Some k

pub record TakenBy (qs : List Filing) (k : Key) (n : ℕ) (than : Key) : Type 0 where
  pub by : Key
  pub other : by ≢ than
  pub entry : Entry
  pub stands : Standing qs by entry
  pub takes : Takes k n by entry

abbrev pub Holds : List Filing → Contents → Type 0
Holds qs c = (k : Key) (e : Entry) → (c.at k ≡ Some e) ↔ Standing qs k e

pub record Sound (qs : List Filing) : Type 0 where
  pub once : (k : Key) (n : ℕ) → IsTrue (is_refill n) → (i j : Key) (e f : Entry) → Standing qs i e → Standing qs j f → Takes k n i e → Takes k n j f → i ≡ j
  pub open_only : (k : Key) (e : Entry) → Standing qs k e → IsTrue e.cancelled → (j : Key) (f : Entry) → Standing qs j f → f.origin ≢ Some k
