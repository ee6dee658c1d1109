use Rattle.std.proofs.Common.{◌<◌, arith}
use Rattle.commands.specs.VerdictsLines.{number_of}
use Rattle.commands.proofs.Shown.{byte_shown}
use Rattle.commands.proofs.verdicts_line.VerdictTextDisplay.fmt.Goals as goal

pub returns-clause-writes : goal.returns-clause-writes
returns-clause-writes g c =
    let n = c.number_of-number.result in
    let fits : n < 256 = omega (arith, c.number_of-number.type_inv) in
    rw (c.laid_out.ensures, byte_shown n (number_of c.args.self.now.0) fits c.number_of-number.ensures c.in_radix.ensures) at c.write.ensures.writes
