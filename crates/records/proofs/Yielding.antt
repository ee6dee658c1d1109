-- The readers yield what they have still to give, for loops and chains over them. Assumes nothing.
use Rattle.std.proofs.Common.{length, ap}
use Rattle.std.proofs.lemmas.Iterator.{YieldsList}
use Rattle.std.proofs.lemmas.Iterator.Consumers.{YieldsList-from_shown}
use Rattle.records.specs.Reading.{written_of, fields_left, GivesField, part_of, orders_left, GivesOrder, record_of, records_left, GivesRecord}
use Rattle.records.specs.declared.fields.Fields.{Fields}
use Rattle.records.specs.declared.orders.Orders.{Orders}
use Rattle.records.specs.declared.passing.Records.{Records}

pub fields_yield : (f : Fields) → YieldsList GivesField written_of f (fields_left f)
fields_yield f = YieldsList-from_shown GivesField written_of fields_left (λ t u h. ap length h.gives.0) (λ t x u h. h.gives) f

pub orders_yield : (o : Orders) → YieldsList GivesOrder part_of o (orders_left o)
orders_yield o = YieldsList-from_shown GivesOrder part_of orders_left (λ t u h. ap length h.gives.0) (λ t x u h. h.gives) o

pub records_yield : (r : Records) → YieldsList GivesRecord record_of r (records_left r)
records_yield r = YieldsList-from_shown GivesRecord record_of records_left (λ t u h. ap length h.gives.0) (λ t x u h. h.gives) r
