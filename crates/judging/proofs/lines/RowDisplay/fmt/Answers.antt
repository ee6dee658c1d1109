use Rattle.std.proofs.Common.{◌%◌, ◌^◌, ◌<◌, refl, arith}
use Rattle.judging.proofs.Hexadecimal.{shown, row_digits}
use Rattle.judging.proofs.lines.RowDisplay.fmt.Goals as goal

pub returns-clause-writes : goal.returns-clause-writes
returns-clause-writes g c =
    let x = c.args.self.now.0 in
    let rule = c.number-rule.result in
    let l_fits : x.field.letter < 16 ^ 2 = omega arith in
    let t_fits : x.field.tens < 16 ^ 2 = omega arith in
    let o_fits : x.field.ones < 16 ^ 2 = omega arith in
    let r_fits : rule < 16 ^ 2 = omega (arith, c.number-rule.type_inv) in
    let a = shown 4 (x.«record» % 0x10000) (omega arith) (omega arith) (omega arith) c.in_radix.ensures (omega arith) in
    let b = shown 4 (x.segment % 0x10000) (omega arith) (omega arith) (omega arith) c.in_radix-2.ensures (omega arith) in
    let d = shown 2 x.field.letter (omega arith) (omega arith) l_fits c.in_radix-3.ensures refl in
    let e = shown 2 x.field.tens (omega arith) (omega arith) t_fits c.in_radix-4.ensures refl in
    let h = shown 2 x.field.ones (omega arith) (omega arith) o_fits c.in_radix-5.ensures refl in
    let k = shown 2 rule (omega arith) (omega arith) r_fits c.in_radix-6.ensures refl in
    let m = shown 8 (x.place % 0x100000000) (omega arith) (omega arith) (omega arith) c.in_radix-7.ensures (omega arith) in
    rw (row_digits x rule l_fits t_fits o_fits r_fits c.number-rule.ensures)
    (rw (c.laid_out.ensures, a, c.laid_out-2.ensures, b, c.laid_out-3.ensures, d, c.laid_out-4.ensures, e, c.laid_out-5.ensures, h, c.laid_out-6.ensures, k, c.laid_out-7.ensures, m) at c.writeln.ensures.writes)
