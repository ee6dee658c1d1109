-- A request to a register has one right reply, and leaves one thing. Assumes nothing.
use Rattle.std.proofs.Common.{◌≡◌, Bool, true, false, sym, refl, ap, ◌∙◌, subst, rules}
use Rattle.std.proofs.lemmas.Bool.{false≢true}
use Rattle.std.specs.Prelude.{◌↔◌, IsTrue}
use Rattle.register.specs.Contents.{Contents}
use Rattle.register.specs.Requests.{Tells, Answers, Served, Alike}
use Rattle.register.specs.declared.requests.Request.{Request}
use Rattle.register.specs.declared.requests.Request.TheVariants.{LookUp, Put, Remove, IsDispensedElsewhere, IsTakenElsewhere}
use Rattle.register.specs.declared.requests.Reply.{Reply}
use Rattle.register.specs.declared.requests.Reply.TheVariants as reply

same_bool : (P : Type 0) (x y : Bool) → (IsTrue x ↔ P) → (IsTrue y ↔ P) → x ≡ y
same_bool P false false f g = refl
same_bool P false true f g = absurd (false≢true (f.1 (g.0 refl)))
same_bool P true false f g = absurd (false≢true (g.1 (f.0 refl)))
same_bool P true true f g = refl

one_tells : (c : Contents) (P : Type 0) (r s : Reply) (d e : Contents) → Tells c P r d → Tells c P s e → (s ≡ r) × (e ≡ d)
one_tells c P r s d e (x, p, f, u) (y, q, g, v) = (q ∙ ap reply.Told (same_bool P y x g f) ∙ sym p, v ∙ sym u)

one_answer : (c : Contents) (q : Request) (r s : Reply) (d e : Contents) → Answers c q r d → Answers c q s e → (s ≡ r) × (e ≡ d)
one_answer c (LookUp k) r s d e f g = (g.0 ∙ sym f.0, g.1 ∙ sym f.1)
one_answer c (Put k x) r s d e f g = (g.0 ∙ sym f.0, g.1 ∙ sym f.1)
one_answer c (Remove k) r s d e f g = (g.0 ∙ sym f.0, g.1 ∙ sym f.1)
one_answer c (IsDispensedElsewhere k) r s d e f g = one_tells c _ r s d e f g
one_answer c (IsTakenElsewhere k n j) r s d e f g = one_tells c _ r s d e f g

pub served : (c : Contents) (q : Request) (r : Reply) (d : Contents) → Answers c q r d → Served c q r d
served c q r d right = record { right = right; only = λ s e. one_answer c q r s d e right }

pub alike : {c d : Contents} {q : Request} {r s : Reply} {c' d' : Contents} → Served c q r c' → Served d q s d' → Alike c d (r, s) c' d'
alike {q = q} {s = s} {d' = d'} f g same = let p = f.only s d' (subst (λ x. Answers x q s d') (sym same) g.right) in (sym p.0, sym p.1)
