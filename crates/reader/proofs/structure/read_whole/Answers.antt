use Rattle.std.proofs.Common.{◌≡◌, ◌<◌, ℕ, List, Err, ap, subst}
use Rattle.std.proofs.lemmas.Result.{err_from_is_err_and}
use Rattle.grammar.specs.Grammar.{Lawful}
use Rattle.reader.specs.declared.faults.Refusal.{Refusal}
use Rattle.reader.specs.Readings.{part}
use Rattle.reader.specs.Laws.{Law, taken}
use Rattle.reader.proofs.Reaching.{left, left_falls, sofar_on}
use Rattle.reader.proofs.Answering.{undeclared_law}
use Rattle.reader.proofs.Uniques.{judged}
use Rattle.reader.proofs.structure.read_whole.Goals as goal

law_of : {u v : List ℕ} → v ≡ u → (r : Refusal) → Law v (Err r) → Law u (Err r)
law_of e r h = subst (λ (w : List ℕ). Law w (Err r)) e h

pub returns-in_err-reader : goal.returns-in_err-reader
returns-in_err-reader c =
    let p = err_from_is_err_and c.from_residual.result c.from_residual.ensures.1 in
    rw (p.1, p.2) (judged c.args.upload.now _ (undeclared_law c.args.upload.now _ c.in_err-reader.ensures.refused))

pub returns-in_err-_token : goal.returns-in_err-_token
returns-in_err-_token c =
    let p = err_from_is_err_and c.from_residual-in_err-_token.result c.from_residual-in_err-_token.ensures.1 in
    rw (p.1, p.2) (judged c.args.upload.now _ (law_of c.loop-token.invariant.same _ c.in_err-_token.ensures.refused))

pub loop-token-smaller : goal.loop-token-smaller
loop-token-smaller c =
    let r = rw c.in-Some.is at c.in_ok-_token.ensures.reads in
    let h = c.loop-token.invariant in
    let l = left_falls c.loop-token.reader.place.upload.now c.loop-token.reader.place.at c.loop-token.reader.station (part c.in-Some._token) c.step.new.self.station c.step.new.self.place.at h.stands.within r in
    subst (λ (u : List ℕ). left u c.step.new.self.place.at c.step.new.self.station < left u c.loop-token.reader.place.at c.loop-token.reader.station) h.same l

pub loop-token-preserved : goal.loop-token-preserved
loop-token-preserved c =
    let e = c.in_ok-_token.ensures in
    let r = rw c.in-Some.is at e.reads in
    sofar_on _ _ _ _ _ (part c.in-Some._token) _ _ c.loop-token.invariant (ap (λ x. x.now) e.upload) r

pub returns : goal.returns
returns c =
    let l = rw c.in_default.is at c.in_ok-_token.ensures.ends in
    judged c.args.upload.now _ (taken (subst Lawful c.loop-token.invariant.same l))
