-- What a register of any kind holds. Assumes nothing.
--     contents_of r   what the register r holds: what the one of its kind holds
--     IsOrdered r     r is of the ordered kind
--     IsScattered r   r is of the scattered kind
--     finite r        that what r holds is finite, as every register shows
use Rattle.register.proofs.Holding.{finite as finite_rows}
use Rattle.register.proofs.Sameness.{distinct}
use Rattle.register.specs.Contents.{Contents, IsFinite}
use Rattle.ordered_register.specs.Meaning.{contents_of as ordered_contents}
use Rattle.hash_register.specs.Meaning.{contents_of as scattered_contents, finite as scattered_finite}
use Rattle.kinds.specs.declared.any_register.AnyRegister.{AnyRegister}
use Rattle.kinds.specs.declared.any_register.AnyRegister.TheVariants.{Ordered, Scattered}

abbrev pub contents_of : AnyRegister → Contents
contents_of (Ordered r) = ordered_contents r
contents_of (Scattered r) = scattered_contents r

abbrev pub IsOrdered : AnyRegister → Type 0
IsOrdered (Ordered r) = Unit {0}
IsOrdered (Scattered r) = ⊥

abbrev pub IsScattered : AnyRegister → Type 0
IsScattered (Ordered r) = ⊥
IsScattered (Scattered r) = Unit {0}

pub finite : (r : AnyRegister) → IsFinite (contents_of r)
finite (Ordered r) = finite_rows r.table.entries r.table.most (distinct _ r.rising) r.within
finite (Scattered r) = scattered_finite r
