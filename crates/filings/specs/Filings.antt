-- What a record files with the register. Assumes nothing.
--     Values            the value of each field, empty if it is not written
--     padded n bs       the first n bytes, with zero bytes after them if there are fewer
--     refills_in bs     the refills that digits write; 0 is none
--     unless_placeholder k
--                       the key, if its identifier is no placeholder
--     origin_in c s i   the key of the prescription that a record of the category c dispenses: a dispensing has that of the sender s and the identifier i, and a placeholder counts as none
--     entry_in v        the entry of a visit. A record in order writes one digit for its times
--     person_in v       whose visit is taken back: the patient M03 and the birth day M04
--     deed_by a v       what the action a does
--     deed_in v         what the record does, by H01
--     filed k d         the deed d under the key k, if there are both
--     filing_in s v     what the record of the sender s files: its deed, under the key of the sender and M15
--     is_of p e         whether the entry e is that of the person p
use Rattle.std.specs.Prelude.{ℕ, ◌-◌, ◌++◌, Bool, false, ◌&&◌, if◌then◌else◌, List, take, replicate, min, Option, Some, None}
use Rattle.std.specs.List.{fold}
use Rattle.std.specs.Option.{option_and_then}
use Rattle.std.specs.Str.{bytes_eq}
use Rattle.fields.specs.Actions.{action_in}
use Rattle.fields.specs.declared.action.Action.{Action}
use Rattle.fields.specs.declared.action.Action.TheVariants as action
use Rattle.fields.specs.declared.field.Field.{Field}
use Rattle.fields.specs.declared.field.Field.TheVariants.{H01, M03, M04, M07, M11, M15, M16, M17, M26, M33}
use Rattle.values.specs.Numbers.{number}
use Rattle.register.specs.Categories.{is_dispensing}
use Rattle.register.specs.Identifiers.{is_placeholder}
use Rattle.register.specs.Keys.{key_in}
use Rattle.register.specs.Refills.{no_refills, with_refill}
use Rattle.register.specs.declared.entry.Entry.{Entry}
use Rattle.register.specs.declared.key.Key.{Key}
use Rattle.register.specs.declared.refills.Refills.{Refills}
use Rattle.filings.specs.declared.filing.Person.{Person}
use Rattle.filings.specs.declared.filing.Deed.{Deed}
use Rattle.filings.specs.declared.filing.Deed.TheVariants.{Visit, Cancel, Delete}
use Rattle.filings.specs.declared.filing.Filing.{Filing}

abbrev pub Values : Type 0
Values = Field → List ℕ

abbrev pub padded : ℕ → List ℕ → List ℕ
padded n bs = take n (bs ++ replicate n 0)

abbrev pub refills_in : List ℕ → Refills
refills_in bs = fold (λ rs b. with_refill rs (b - 48)) no_refills bs

abbrev pub unless_placeholder : Key → Option Key
unless_placeholder k = if is_placeholder k.identifier then None else Some k

abbrev pub origin_in : List ℕ → List ℕ → List ℕ → Option Key
origin_in c s i = if is_dispensing c then option_and_then unless_placeholder (key_in s i) else None

abbrev pub entry_in : Values → Entry
entry_in v = record {
  patient = padded 10 (v M03);
  birth = padded 7 (v M04);
  category = padded 2 (v M07);
  visit = padded 13 (v M11);
  origin = origin_in (padded 2 (v M07)) (v M17) (v M16);
  times = min (number (v M26)) 255;
  refills = refills_in (v M33);
  cancelled = false;
}

abbrev pub person_in : Values → Person
person_in v = record { patient = padded 10 (v M03); birth = padded 7 (v M04) }

abbrev pub deed_by : Option Action → Values → Option Deed
deed_by None v = None
deed_by (Some action.Normal) v = Some (Visit (entry_in v))
deed_by (Some action.Exceptional) v = Some (Visit (entry_in v))
deed_by (Some action.Cancel) v = Some (Cancel (person_in v))
deed_by (Some action.Delete) v = Some (Delete (person_in v))

abbrev pub deed_in : Values → Option Deed
deed_in v = deed_by (action_in (v H01)) v

abbrev pub filed : Option Key → Option Deed → Option Filing
filed None d = None
filed (Some k) None = None
filed (Some k) (Some d) = Some (record { key = k; deed = d })

abbrev pub filing_in : List ℕ → Values → Option Filing
filing_in s v = filed (key_in s (v M15)) (deed_in v)

abbrev pub is_of : Person → Entry → Bool
is_of p e = bytes_eq e.patient p.patient && bytes_eq e.birth p.birth
