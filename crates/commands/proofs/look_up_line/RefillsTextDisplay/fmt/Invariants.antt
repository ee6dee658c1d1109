use Rattle.std.proofs.Common.{take}
use Rattle.std.specs.Fmt.{HasWritten, IsPlainFormatter}
use Rattle.std.specs.List.{flat_map}
use Rattle.commands.specs.LookUpLines.{refill_text}
use Rattle.commands.proofs.look_up_line.RefillsTextDisplay.fmt.Given as goal

abbrev pub invariant-loop-refill : goal.invariant-loop-refill
invariant-loop-refill g l =
    IsPlainFormatter l.initial.f → HasWritten g.W.Write.write_str_gives l.initial.f (flat_map (refill_text l.self.0) (take l.refill-index l.refill-items)) l.f
