use Rattle.std.proofs.Common.{take}
use Rattle.std.specs.Fmt.{HasWritten, IsPlainFormatter}
use Rattle.std.specs.List.{flat_map}
use Rattle.commands.specs.VerdictsLines.{verdict_text}
use Rattle.commands.proofs.verdicts_line.VerdictsLineDisplay.fmt.Given as goal

abbrev pub invariant-loop-verdict : goal.invariant-loop-verdict
invariant-loop-verdict g l =
    IsPlainFormatter l.initial.f → HasWritten g.W.Write.write_str_gives l.initial.f (flat_map verdict_text (take l.verdict-index l.verdict-items)) l.f
