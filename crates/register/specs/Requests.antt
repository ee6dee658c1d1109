-- Requests to a register. Assumes nothing.
--     Tells c P r d         the reply r tells whether P holds, and c stays
--     Answers c q r d       r is a right reply to the request q of a register that holds c, and it then holds d
--     Served c q r d        so they are, and no other reply and contents are right
--     Alike c d r c' d'     if c and d are the same, so are the two replies r, and c' and d'
use Rattle.std.specs.Prelude.{◌≡◌, ◌↔◌, Bool, IsTrue, is_some}
use Rattle.register.specs.Contents.{Contents, put_in, put_answer, without, DispensedElsewhere, TakenElsewhere}
use Rattle.register.specs.declared.requests.Request.{Request}
use Rattle.register.specs.declared.requests.Request.TheVariants.{LookUp, Put, Remove, IsDispensedElsewhere, IsTakenElsewhere}
use Rattle.register.specs.declared.requests.Reply.{Reply}
use Rattle.register.specs.declared.requests.Reply.TheVariants as reply

abbrev pub Tells : Contents → Type 0 → Reply → Contents → Type 0
Tells c P r d = (told : Bool) × (r ≡ reply.Told told) × (IsTrue told ↔ P) × (d ≡ c)

abbrev pub Answers : Contents → Request → Reply → Contents → Type 0
Answers c (LookUp k) r d = (r ≡ reply.Entry (c.at k)) × (d ≡ c)
Answers c (Put k e) r d = (r ≡ reply.Put (put_answer c k)) × (d ≡ put_in c k e)
Answers c (Remove k) r d = (r ≡ reply.Told (is_some (c.at k))) × (d ≡ without c k)
Answers c (IsDispensedElsewhere k) r d = Tells c (DispensedElsewhere c k) r d
Answers c (IsTakenElsewhere k n j) r d = Tells c (TakenElsewhere c k n j) r d

pub record Served (c : Contents) (q : Request) (r : Reply) (d : Contents) : Type 0 where
  pub right : Answers c q r d
  pub only : (s : Reply) (e : Contents) → Answers c q s e → (s ≡ r) × (e ≡ d)

abbrev pub Alike : Contents → Contents → Reply × Reply → Contents → Contents → Type 0
Alike c d r c' d' = c ≡ d → (r.0 ≡ r.1) × (c' ≡ d')
