-- What a state wants may stand there. Assumes nothing.
use Rattle.std.proofs.Common.{◌≡◌, Bool, true, false, refl, subst}
use Rattle.grammar.specs.Grammar.{Turn, opens_records, opens_record, opens_header, opens_body, opens_visit, opens_order, closes_body, closes_record, closes_records}
use Rattle.grammar.specs.Tags.{behind, wanted}
use Rattle.grammar.specs.declared.states.Segment.{Segment}
use Rattle.grammar.specs.declared.states.State.{State}
use Rattle.grammar.specs.declared.states.State.TheVariants.{Start, Records, Record, Within, Headed, Body, Orders, Bodied, Done}
use Rattle.grammar.specs.declared.states.Tag.{Tag}
use Rattle.grammar.specs.declared.states.Wanted.{Wanted}
use Rattle.grammar.specs.declared.states.Wanted.TheVariants.{Structure, Field, Nothing}
use Rattle.grammar.proofs.Inverts.{closes_segment}

-- what is wanted may stand in the state s
abbrev MayStand : State → Wanted → Type 0
MayStand s (Structure t) = Turn s t (behind t)
MayStand s (Field g) = s ≡ Within g
MayStand s Nothing = s ≡ Done

may_stand : (s : State) (c : Bool) → MayStand s (wanted s c)
may_stand Start c = opens_records
may_stand Records true = closes_records
may_stand Records false = opens_record
may_stand Record c = opens_header
may_stand (Within g) true = closes_segment g
may_stand (Within g) false = refl
may_stand Headed c = opens_body
may_stand Body c = opens_visit
may_stand Orders true = closes_body
may_stand Orders false = opens_order
may_stand Bodied c = closes_record
may_stand Done c = refl

pub wanted_turn : (s : State) (c : Bool) (t : Tag) → wanted s c ≡ Structure t → Turn s t (behind t)
wanted_turn s c t h = subst (MayStand s) h (may_stand s c)

pub wanted_field : (s : State) (c : Bool) (g : Segment) → wanted s c ≡ Field g → s ≡ Within g
wanted_field s c g h = subst (MayStand s) h (may_stand s c)

pub wanted_nothing : (s : State) (c : Bool) → wanted s c ≡ Nothing → s ≡ Done
wanted_nothing s c h = subst (MayStand s) h (may_stand s c)
