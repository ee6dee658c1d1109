use Rattle.std.proofs.Common.{ℕ, List, Bor, rules, subst}
use Rattle.std.proofs.lemmas.Result.{IfErr-at_err}
use Rattle.grammar.specs.Grammar.{declaration}
use Rattle.reader.specs.Scans.{TextMissing, SkipsWhite}
use Rattle.reader.specs.declared.faults.Cause.TheVariants.{Elsewhere}
use Rattle.reader.proofs.Reaching.{begun}
use Rattle.reader.proofs.Texts.{text_stands, text_missing}
use Rattle.reader.proofs.reader.Reader.begin.Goals as goal

pub returns-in-Ok-clause-begun : goal.returns-in-Ok-clause-begun
returns-in-Ok-clause-begun c =
    let h = rw (c.first.ensures.upload, c.first.ensures.at, c.declaration_text.ensures) at c.in-Ok.ensures in
    let white = subst (λ (u : Bor (List ℕ)). SkipsWhite u.now c.in-Ok.end.at c.past_white.result.at) h.upload c.past_white.ensures.skips in
    begun _ _ _ (text_stands _ _ _ _ h.stands) white

pub returns-in-Err-Wrong-clause-refused : goal.returns-in-Err-Wrong-clause-refused
returns-in-Err-Wrong-clause-refused c =
    let h = rw (c.first.ensures.upload, c.first.ensures.at, c.declaration_text.ensures) at c.past.ensures.missing in
    let m : TextMissing c.args.upload.now 0 declaration Elsewhere c.in-Err-Wrong.field-0 = text_missing _ _ _ _ _ (IfErr-at_err _ c.in-Err-Wrong.is h) in
    search rules
