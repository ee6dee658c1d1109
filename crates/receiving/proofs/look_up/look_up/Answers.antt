use Rattle.std.proofs.Common.{rules, ◌≡◌, None, sym, subst}
use Rattle.std.specs.Option.{option_and_then}
use Rattle.std.specs.Prelude.{MatchOption}
use Rattle.register.specs.Keys.{key_in}
use Rattle.receiving.specs.Uses.{LookUpLaws}
use Rattle.receiving.proofs.Exact.{looked_up}
use Rattle.receiving.proofs.look_up.look_up.Goals as goal

pub returns-clause-uses : goal.returns-clause-uses
returns-clause-uses g c =
    let contents = g.R.Register.contents c.args.register.now in
    let key = key_in c.args.sender.now c.args.identifier.now in
    let value : c.look_up.result ≡ option_and_then contents.at key = search rules in
    subst (λ o. MatchOption key (o ≡ None) (λ k. LookUpLaws contents k o)) (sym value) (looked_up contents key)
