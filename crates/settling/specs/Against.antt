-- Rules 30 to 35: what stands against a filing. Assumes nothing. u is the entry under its key, if there is one.
--     is_kept k d               a deed that the register keeps: a visit under a placeholder is none
--     is_unmatched d u          rule 30: a cancellation or a deletion, and no entry of its person stands under its key
--     is_overdue today e        the due day of the entry's visit lies before the receipt day
--     is_late today d u         rule 31: so it is with the visit itself, or with the entry under its key
--     refill_numbers            1 to 9
--     is_unfit e o              a dispensing e of a prescription with the entry o is wrong: that is cancelled, or its times are below a refill
--     origin_fails c k e        the origin of the entry e under the key k is k itself, or such an entry stands there
--     TakesTaken c k e          a refill that the entry e under the key k takes is taken under another key
--     Unfillable c k d          rule 33: a visit of which one of both holds
--     is_uncancellable d u      rule 34: a cancellation of a dispensing, of an entry that may not be dispensed, or of a cancelled one
--     Against c today q r       the rule r stands against the filing q in the register c on the day; those of other tiers never do
use Rattle.std.specs.Prelude.{ℕ, Bool, true, false, IsTrue, not, ◌&&◌, ◌||◌, ◌==◌, ◌⊎◌, List, [], ◌∷◌, Option, IsSomeAnd, is_some, nat_lt}
use Rattle.std.specs.List.{list_any}
use Rattle.std.specs.Option.{option_map_or}
use Rattle.calendar.specs.Calendar.{Date}
use Rattle.calendar.specs.Clock.{stamp_in}
use Rattle.calendar.specs.Due.{is_past_due}
use Rattle.faults.specs.declared.rules.Rule.{Rule}
use Rattle.faults.specs.declared.rules.Rule.TheVariants.{Unmatched, Late, Dispensed, Prescription, Uncancellable, NoRoom}
use Rattle.register.specs.Categories.{is_dispensing}
use Rattle.register.specs.Contents.{Contents, has_room, DispensedElsewhere, TakenElsewhere}
use Rattle.register.specs.Entries.{source}
use Rattle.register.specs.Identifiers.{is_placeholder}
use Rattle.register.specs.Keys.{same_key}
use Rattle.register.specs.Refills.{is_refill, has_refill}
use Rattle.register.specs.declared.entry.Entry.{Entry}
use Rattle.register.specs.declared.key.Key.{Key}
use Rattle.filings.specs.Filings.{is_of}
use Rattle.filings.specs.declared.filing.Deed.{Deed}
use Rattle.filings.specs.declared.filing.Deed.TheVariants.{Visit, Cancel, Delete}
use Rattle.filings.specs.declared.filing.Filing.{Filing}

abbrev pub is_kept : Key → Deed → Bool
is_kept k (Visit e) = not (is_placeholder k.identifier)
is_kept k _ = true

abbrev pub is_unmatched : Deed → Option Entry → Bool
is_unmatched (Visit e) u = false
is_unmatched (Cancel p) u = not (option_map_or (is_of p) u false)
is_unmatched (Delete p) u = not (option_map_or (is_of p) u false)

abbrev pub is_overdue : Date → Entry → Bool
is_overdue today e = option_map_or (λ s. is_past_due today s.date) (stamp_in e.visit) false

abbrev pub is_late : Date → Deed → Option Entry → Bool
is_late today (Visit e) u = is_overdue today e || option_map_or (is_overdue today) u false
is_late today _ u = option_map_or (is_overdue today) u false

abbrev pub refill_numbers : List ℕ
refill_numbers = 1 ∷ 2 ∷ 3 ∷ 4 ∷ 5 ∷ 6 ∷ 7 ∷ 8 ∷ 9 ∷ []

abbrev pub is_unfit : Entry → Entry → Bool
is_unfit e o = o.cancelled || list_any (λ n. has_refill e.refills n && nat_lt o.times n) refill_numbers

abbrev pub origin_fails : Contents → Key → Entry → Bool
origin_fails c k e = option_map_or (λ o. same_key o k || option_map_or (is_unfit e) (c.at o) false) e.origin false

abbrev pub TakesTaken : Contents → Key → Entry → Type 0
TakesTaken c k e = (n : ℕ) × IsTrue (is_refill n && has_refill e.refills n) × IsSomeAnd (source k e) (λ o. TakenElsewhere c o n k)

abbrev pub Unfillable : Contents → Key → Deed → Type 0
Unfillable c k (Visit e) = IsTrue (origin_fails c k e) ⊎ TakesTaken c k e
Unfillable c k _ = ⊥

abbrev pub is_uncancellable : Deed → Option Entry → Bool
is_uncancellable (Cancel p) u = option_map_or (λ e. is_dispensing e.category || (e.times == 0 || e.cancelled)) u false
is_uncancellable _ u = false

abbrev pub Against : Contents → Date → Filing → Rule → Type 0
Against c today q Unmatched = IsTrue (is_unmatched q.deed (c.at q.key))
Against c today q Late = IsTrue (is_late today q.deed (c.at q.key))
Against c today q Dispensed = IsTrue (is_kept q.key q.deed && is_some (c.at q.key)) × DispensedElsewhere c q.key
Against c today q Prescription = IsTrue (is_kept q.key q.deed) × Unfillable c q.key q.deed
Against c today q Uncancellable = IsTrue (is_uncancellable q.deed (c.at q.key))
Against c today q NoRoom = IsTrue (is_kept q.key q.deed && not (has_room c q.key))
Against c today q _ = ⊥
