use Rattle.std.proofs.Common.{◌%◌, ◌^◌, ◌<◌, refl, ◌∙◌, ap, arith}
use Rattle.std.specs.Option.{option_map, unwrap_or}
use Rattle.reader.specs.Refusals.{cause_number}
use Rattle.judging.proofs.Hexadecimal.{shown, counts_digits, refusal_digits, told}
use Rattle.judging.proofs.lines.LineDisplay.fmt.Goals as goal

pub returns-in-Ok-clause-writes : goal.returns-in-Ok-clause-writes
returns-in-Ok-clause-writes g c =
    let n = c.in-Ok.counts in
    let records = shown 4 (n.records % 0x10000) (omega arith) (omega arith) (omega arith) c.in_radix.ensures (omega arith) in
    let accepted = shown 4 (n.accepted % 0x10000) (omega arith) (omega arith) (omega arith) c.in_radix-in-Ok.ensures (omega arith) in
    let faults = shown 8 (n.faults % 0x100000000) (omega arith) (omega arith) (omega arith) c.in_radix-in-Ok-2.ensures (omega arith) in
    rw (c.in-Ok.is, counts_digits n) (rw (c.laid_out.ensures, records, c.laid_out-in-Ok.ensures, accepted, c.laid_out-in-Ok-2.ensures, faults) at c.writeln.ensures.writes)

pub returns-in-Err-clause-writes : goal.returns-in-Err-clause-writes
returns-in-Err-clause-writes g c =
    let n = c.number-number.result in
    let q = c.map_or-cause.result in
    let k = c.unwrap_or-place.result in
    let n_fits : n < 16 ^ 2 = omega (arith, c.number-number.type_inv) in
    let q_fits : q < 16 ^ 2 = omega (arith, c.map_or-cause.type_inv) in
    let number = shown 2 n (omega arith) (omega arith) n_fits c.in_radix-in-Err.ensures refl in
    let cause = shown 2 q (omega arith) (omega arith) q_fits c.in_radix-in-Err-2.ensures refl in
    let place = shown 8 (k % 0x100000000) (omega arith) (omega arith) (omega arith) c.in_radix-in-Err-3.ensures (omega arith) in
    let cause_told = told c.cause.result q c.map_or-cause.ensures ∙ ap (λ o. unwrap_or (option_map cause_number o) 0) c.cause.ensures in
    let place_told = c.unwrap_or-place.ensures ∙ ap (λ o. unwrap_or o 0) c.place.ensures in
    rw (c.in-Err.is, refusal_digits c.in-Err.refusal n q k n_fits q_fits c.number-number.ensures cause_told place_told)
    (rw (c.laid_out-in-Err.ensures, number, c.laid_out-in-Err-2.ensures, cause, c.laid_out-in-Err-3.ensures, place) at c.writeln-in-Err.ensures.writes)
