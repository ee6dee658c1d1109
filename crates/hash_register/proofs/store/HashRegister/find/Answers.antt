use Rattle.std.proofs.Common.{◌<◌, subst, rules}
use Rattle.hash_register.proofs.Tables.{found_within}
use Rattle.hash_register.specs.Homes.{home, homes}
use Rattle.hash_register.specs.Slots.{Ends}
use Rattle.hash_register.proofs.store.HashRegister.find.Goals as goal

pub returns-clause-within : goal.returns-clause-within
returns-clause-within c =
    let s = c.args.self.now in
    let k = c.args.key.now in
    let ends : Ends s.slots.items (home (homes s.most) k) k c.search.result = search rules in
    found_within s.most s.count s.slots.items s.table k c.search.result ends
    (subst (λ n. home n k < n) c.homes.ensures (subst (λ x. x < c.homes.result) c.home.ensures.value c.home.ensures.range))
