-- The refusals of whole uploads, and of code lists, by number, cause and place, and how a fault becomes one. Assumes nothing.
--     number_of r            the number of a refusal
--     cause_of r             its cause: none, unless the upload is unlawful
--     place_of r             its place: none for a length or a call
--     told_cause r           the number of its cause, and 0 for none
--     told_place r           its place, and 0 for none
--     cause_number c         the number of a cause
--     character_to_tag f     a fault in a character, as one in a tag: the cause is a value, the place stays
--     tag_to_refusal f       a fault in a tag, as a refusal: cause and place stay
use Rattle.std.specs.Prelude.{ℕ, Option, Some, None}
use Rattle.std.specs.Option.{option_map, unwrap_or}
use Rattle.reader.specs.declared.faults.Cause.{Cause}
use Rattle.reader.specs.declared.faults.Cause.TheVariants.{Value, ClosingId, Elsewhere}
use Rattle.reader.specs.declared.faults.CharacterFault.{CharacterFault}
use Rattle.reader.specs.declared.faults.CharacterFault.TheVariants as character
use Rattle.reader.specs.declared.faults.TagFault.{TagFault}
use Rattle.reader.specs.declared.faults.TagFault.TheVariants as tag
use Rattle.reader.specs.declared.faults.Refusal.{Refusal}
use Rattle.reader.specs.declared.faults.Refusal.TheVariants.{Length, Declaration, Unlawful, NoHeader, NoVisit, CutShort, Foreign, TooMany, Call, Row}

abbrev pub cause_number : Cause → ℕ
cause_number Value = 1
cause_number ClosingId = 2
cause_number Elsewhere = 3

abbrev pub number_of : Refusal → ℕ
number_of Length = 1
number_of (Declaration place) = 2
number_of (Unlawful cause place) = 3
number_of (NoHeader place) = 4
number_of (NoVisit place) = 5
number_of (CutShort place) = 6
number_of (Foreign place) = 7
number_of (TooMany place) = 8
number_of Call = 9
number_of (Row place) = 10

abbrev pub cause_of : Refusal → Option Cause
cause_of (Unlawful cause place) = Some cause
cause_of _ = None

abbrev pub place_of : Refusal → Option ℕ
place_of Length = None
place_of (Declaration place) = Some place
place_of (Unlawful cause place) = Some place
place_of (NoHeader place) = Some place
place_of (NoVisit place) = Some place
place_of (CutShort place) = Some place
place_of (Foreign place) = Some place
place_of (TooMany place) = Some place
place_of Call = None
place_of (Row place) = Some place

abbrev pub told_cause : Refusal → ℕ
told_cause r = unwrap_or (option_map cause_number (cause_of r)) 0

abbrev pub told_place : Refusal → ℕ
told_place r = unwrap_or (place_of r) 0

abbrev pub character_to_tag : CharacterFault → TagFault
character_to_tag (character.Wrong place) = tag.Wrong Value place
character_to_tag (character.Ended place) = tag.Ended place

abbrev pub tag_to_refusal : TagFault → Refusal
tag_to_refusal (tag.Wrong cause place) = Unlawful cause place
tag_to_refusal (tag.Ended place) = CutShort place
