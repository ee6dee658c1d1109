use Rattle.std.proofs.Common.{◌≡◌, ◌<◌, length}
use Rattle.bench_registers.specs.Found.{found_in}
use Rattle.bench_registers.proofs.lookups.time_look_ups.Given as goal

abbrev pub invariant-loop : goal.invariant-loop
invariant-loop g l = (l.times.keys ≡ length l.keys) × (0 < l.counter → l.times.found ≡ found_in (g.R.Register.contents l.register) l.keys)
