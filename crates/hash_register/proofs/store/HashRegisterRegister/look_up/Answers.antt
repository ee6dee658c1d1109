use Rattle.std.proofs.Common.{◌≡◌, sym, ap, ◌∙◌, rules}
use Rattle.std.specs.Option.{option_map}
use Rattle.hash_register.proofs.Held.{read}
use Rattle.hash_register.proofs.Tables.{at_found}
use Rattle.hash_register.proofs.store.HashRegisterRegister.look_up.Goals as goal

pub returns : goal.returns
returns c =
    let s = c.args.self.now in
    let mapped : c.map.result ≡ option_map (λ r. r.1) c.index.result.now = search rules in
    mapped ∙ ap (option_map (λ r. r.1)) (read s.slots.items c.find.result c.index.result.now c.find.ensures.within c.index.ensures)
    ∙ sym (at_found s.most s.count s.slots.items s.table c.args.key.now c.find.result c.find.ensures.ends)
