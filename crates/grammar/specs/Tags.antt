-- The structure as tables: what a state wants, and where a tag leads. Assumes nothing.
--     element g      the element that holds the segment g
--     behind t       the state behind the tag t
--     wanted s c     what may stand in the state s: c, whether a closing tag comes, decides where both kinds may
use Rattle.std.specs.Prelude.{Bool, cond}
use Rattle.grammar.specs.declared.states.Segment.{Segment}
use Rattle.grammar.specs.declared.states.Segment.TheVariants.{Header, Visit, Order}
use Rattle.grammar.specs.declared.states.State.{State}
use Rattle.grammar.specs.declared.states.State.TheVariants.{Start, Records, Record, Within, Headed, Body, Orders, Bodied, Done}
use Rattle.grammar.specs.declared.states.Element.{Element}
use Rattle.grammar.specs.declared.states.Element.TheVariants.{Recs, Rec, Msh, Mb, Mb1, Mb2}
use Rattle.grammar.specs.declared.states.Tag.{Tag}
use Rattle.grammar.specs.declared.states.Tag.TheVariants.{Open, Close}
use Rattle.grammar.specs.declared.states.Wanted.{Wanted}
use Rattle.grammar.specs.declared.states.Wanted.TheVariants.{Structure, Field, Nothing}

abbrev pub element : Segment → Element
element Header = Msh
element Visit = Mb1
element Order = Mb2

abbrev pub behind : Tag → State
behind (Open Recs) = Records
behind (Open Rec) = Record
behind (Open Msh) = Within Header
behind (Open Mb) = Body
behind (Open Mb1) = Within Visit
behind (Open Mb2) = Within Order
behind (Close Recs) = Done
behind (Close Rec) = Records
behind (Close Msh) = Headed
behind (Close Mb) = Bodied
behind (Close Mb1) = Orders
behind (Close Mb2) = Orders

abbrev pub wanted : State → Bool → Wanted
wanted Start c = Structure (Open Recs)
wanted Records c = cond c (Structure (Close Recs)) (Structure (Open Rec))
wanted Record c = Structure (Open Msh)
wanted (Within g) c = cond c (Structure (Close (element g))) (Field g)
wanted Headed c = Structure (Open Mb)
wanted Body c = Structure (Open Mb1)
wanted Orders c = cond c (Structure (Close Mb)) (Structure (Open Mb2))
wanted Bodied c = Structure (Close Rec)
wanted Done c = Nothing
