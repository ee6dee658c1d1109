use Rattle.std.proofs.Common.{◌≡◌, ◌++◌, true, false, length, take, drop, sym, ap, ◌∙◌, subst}
use Rattle.std.proofs.Math.Seq.{take-append_seam}
use Rattle.hash_register.proofs.Held.{read_some}
use Rattle.hash_register.proofs.Tables.{IsRemoved, removed, without_none, stands}
use Rattle.hash_register.specs.Slots.{Vacates}
use Rattle.hash_register.proofs.store.HashRegisterRegister.remove.Goals as goal
use Rattle.hash_register.proofs.store.HashRegisterRegister.remove.Goals.{After-vacate}

made : (c : After-vacate) → IsRemoved c.args.self.now.most c.args.self.now.count c.args.self.now.slots.items c.args.key.now (take c.args.self.now.slots.len (c.vacate.new.slots ++ drop (length c.vacate.new.slots) c.args.self.now.slots.items))
made c =
    let s = c.args.self.now in
    let i = c.find-place.result in
    let ys = c.vacate.new.slots in
    let some = read_some s.slots.items i c.index.result.now true c.find-place.ensures.within c.index.ensures c.if-is_none.ensures in
    let v = subst (λ n. Vacates n s.slots.items i ys) c.homes.ensures (subst (λ xs. Vacates c.homes.result xs i ys) c.deref_mut.ensures.value c.vacate.ensures) in
    let long : length ys ≡ length s.slots.items = c.vacate.auto.slots ∙ ap length c.deref_mut.ensures.value in
    let whole = ap (λ n. take n (ys ++ drop (length ys) s.slots.items)) (s.slots.ok.0 ∙ sym long) ∙ take-append_seam ys (drop (length ys) s.slots.items) in
    subst (IsRemoved s.most s.count s.slots.items c.args.key.now) (sym whole)
    (removed s.most s.count s.slots.items s.table c.args.key.now i c.find-place.ensures.ends c.find-place.ensures.within ys some v long)

pub overflow_sub-self : goal.overflow_sub-self
overflow_sub-self c = (made (goal.at.overflow_sub-self c).After-vacate).held_one

pub invariant_of-self : goal.invariant_of-self
invariant_of-self c = record { table = (made (goal.at.invariant_of-self c).After-vacate).table }

pub returns-then-is_none : goal.returns-then-is_none
returns-then-is_none c =
    let s = c.args.self.now in
    let none = read_some s.slots.items c.find-place.result c.index.result.now false c.find-place.ensures.within c.index.ensures c.if-is_none.ensures in
    record {
      answer = sym (stands s.most s.count s.slots.items s.table c.args.key.now c.find-place.result c.find-place.ensures.ends ∙ none);
      after = without_none s.most s.count s.slots.items s.table c.args.key.now c.find-place.result c.find-place.ensures.ends none;
    }

pub returns : goal.returns
returns c = let r = made (goal.at.returns c).After-vacate in record { answer = r.answer; after = r.after }
