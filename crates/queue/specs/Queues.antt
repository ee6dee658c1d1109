-- What a queue works on. Assumes nothing.
--     held q              what the register of the queue q holds
--     listed q            what its code lists say
--     IsOf k r            the register r is of the kind k
--     Has k q             q has a register of the kind k
--     KeepsRegister p q   the queue q has the register that p had
--     KeepsLists p q      q has the code lists that p had
--     Says rs m           the rows rs are good, and m says what they say
use Rattle.std.specs.Prelude.{◌≡◌, ℕ, List}
use Rattle.calendar.specs.Calendar.{Date}
use Rattle.lists.specs.Lists.{Meaning}
use Rattle.lists.specs.Rows.{NoneIsBad, says}
use Rattle.lists.specs.declared.row.Row.{Row}
use Rattle.register.specs.Contents.{Contents}
use Rattle.commands.specs.declared.command.Kind.{Kind}
use Rattle.commands.specs.declared.command.Kind.TheVariants.{Ordered, Scattered}
use Rattle.kinds.specs.Lists.{meaning_of}
use Rattle.kinds.specs.Registers.{contents_of, IsOrdered, IsScattered}
use Rattle.kinds.specs.declared.any_register.AnyRegister.{AnyRegister}
use Rattle.queue.specs.declared.queue.Queue.{Queue}

abbrev pub held : Queue → Contents
held q = contents_of q.register

abbrev pub listed : Queue → Meaning
listed q = meaning_of q.lists

abbrev pub IsOf : Kind → AnyRegister → Type 0
IsOf Ordered = IsOrdered
IsOf Scattered = IsScattered

abbrev pub Has : Kind → Queue → Type 0
Has k q = IsOf k q.register

abbrev pub KeepsRegister : Queue → Queue → Type 0
KeepsRegister p q = q.register ≡ p.register

abbrev pub KeepsLists : Queue → Queue → Type 0
KeepsLists p q = q.lists ≡ p.lists

abbrev pub Says : List Row → Meaning → Type 0
Says rs m = NoneIsBad rs × ((list : ℕ) (code : List ℕ) (date : Date) → m list code date ≡ says rs list code date)
