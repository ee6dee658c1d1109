use Rattle.std.proofs.Common.{◌+◌, min, rules, arith}
use Rattle.hash_register.proofs.Empty.{table_of_none, contents_of_none}
use Rattle.hash_register.proofs.store.HashRegister.new.Goals as goal

pub invariant_of-result : goal.invariant_of-result
invariant_of-result c = record {
  table = table_of_none c.min-most.result (c.homes.result + c.min-most.result) c.in_ok-slots.slots.items (c.in_ok-slots.ensures.items_if_clones_equal (search rules)) (omega (arith, c.min-most.ensures)) (omega (arith, c.homes.ensures));
}

pub returns : goal.returns
returns c = contents_of_none c.min-most.result (c.homes.result + c.min-most.result) c.in_ok-slots.slots.items (c.in_ok-slots.ensures.items_if_clones_equal (search rules)) (min c.args.entries 65536) c.min-most.ensures
