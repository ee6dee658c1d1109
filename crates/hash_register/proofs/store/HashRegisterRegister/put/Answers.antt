use Rattle.std.proofs.Common.{◌+◌, not, false, Some, slice_set, inl, inr, ap, ◌∙◌, arith}
use Rattle.hash_register.proofs.Held.{read_some}
use Rattle.hash_register.proofs.Tables.{IsCount, IsPut, put, full_answer, full_after}
use Rattle.hash_register.specs.Slots.{slot}
use Rattle.hash_register.proofs.store.HashRegisterRegister.put.Goals as goal
use Rattle.hash_register.proofs.store.HashRegisterRegister.put.Goals.{After-from, else-is_new-via-then-is_new+else-self, else-is_new-via-else-is_new}

made : (c : After-from) → IsPut c.args.self.now.most c.args.self.now.count c.args.self.now.slots.items c.args.key c.args.entry (c.args.self.now.count + c.from.result) (slice_set c.args.self.now.slots.items c.find-place.result (Some (c.args.key, c.args.entry)))
made c =
    let s = c.args.self.now in
    let i = c.find-place.result in
    let h = read_some s.slots.items i c.index.result.now (not c.is_none-is_new.result) c.find-place.ensures.within c.index.ensures c.is_none-is_new.ensures in
    let counts : IsCount s.most s.count (slot s.slots.items i) (s.count + c.from.result) = elim c.else-is_new.branch [
      | else-is_new-via-then-is_new+else-self w ↦ let n = w.if-is_new.true in inr (h ∙ ap not n, omega (arith, s.table.within, w.if-self.false), omega (arith, rw n at c.from.ensures))
      | else-is_new-via-else-is_new w ↦ let n = w.if-is_new.false in inl (h ∙ ap not n, omega (arith, rw n at c.from.ensures))
    ] in
    put s.most s.count s.slots.items s.table c.args.key i c.find-place.ensures.ends c.find-place.ensures.within c.args.entry (s.count + c.from.result) counts

pub invariant_of-self : goal.invariant_of-self
invariant_of-self c = record { table = (made (goal.at.invariant_of-self c).After-from).table }

pub returns-then-self : goal.returns-then-self
returns-then-self c =
    let s = c.args.self.now in
    let none = read_some s.slots.items c.find-place.result c.index.result.now false c.find-place.ensures.within c.index.ensures (c.is_none-is_new.ensures ∙ ap not c.if-is_new.true) in
    record {
      answer = full_answer s.most s.count s.slots.items s.table c.args.key c.find-place.result c.find-place.ensures.ends none c.if-self.true;
      after = full_after s.most s.count s.slots.items s.table c.args.key c.find-place.result c.find-place.ensures.ends none c.if-self.true c.args.entry;
    }

pub returns : goal.returns
returns c = let p = made (goal.at.returns c).After-from in record { answer = p.answer; after = p.after }
