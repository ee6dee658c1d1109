-- What becomes of a filing. Assumes nothing.
--     marked b e            the entry e, cancelled or not
--     done c k d            the register c after the deed d under the key k: a visit puts its entry, unless the key is a placeholder; a cancellation sets the mark; a deletion takes the entry away
--     Settled c today q v d on the day, the filing q has the verdict v, the lowest rule that stands against it; d is c after its deed if it has none, and else c
use Rattle.std.specs.Prelude.{◌≡◌, Bool, true, false, if◌then◌else◌, Option, is_none}
use Rattle.std.specs.Option.{option_map_or}
use Rattle.calendar.specs.Calendar.{Date}
use Rattle.faults.specs.declared.rules.Rule.{Rule}
use Rattle.register.specs.Contents.{Contents, put_in, without}
use Rattle.register.specs.Identifiers.{is_placeholder}
use Rattle.register.specs.declared.entry.Entry.{Entry}
use Rattle.register.specs.declared.key.Key.{Key}
use Rattle.filings.specs.declared.filing.Deed.{Deed}
use Rattle.filings.specs.declared.filing.Deed.TheVariants.{Visit, Cancel, Delete}
use Rattle.filings.specs.declared.filing.Filing.{Filing}
use Rattle.settling.specs.Against.{Against}
use Rattle.settling.specs.Verdicts.{IsLowest}

abbrev pub marked : Bool → Entry → Entry
marked b e = record e { cancelled = b }

abbrev pub done : Contents → Key → Deed → Contents
done c k (Visit e) = if is_placeholder k.identifier then c else put_in c k (marked false e)
done c k (Cancel p) = option_map_or (λ e. put_in c k (marked true e)) (c.at k) c
done c k (Delete p) = without c k

pub record Settled (c : Contents) (today : Date) (q : Filing) (v : Option Rule) (d : Contents) : Type 0 where
  pub verdict : IsLowest (Against c today q) v
  pub after : d ≡ if is_none v then done c q.key q.deed else c
