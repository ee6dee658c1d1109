-- From a call to what is made of an input. Assumes nothing.
use Rattle.std.proofs.Common.{◌≡◌, ℕ, nat_eq, true, false, List, [], ◌∷◌, ◌++◌, take, drop, Option, None, Some, Result, Ok, Err, refl, sym, ap, ◌∙◌, subst}
use Rattle.std.proofs.lemmas.List.{take_at, drop_at, take-append-drop}
use Rattle.std.proofs.lemmas.Option.{MatchOption-at_some}
use Rattle.std.specs.Cmp.Lexicographic.{pointwise, same_text, other_text}
use Rattle.std.specs.Option.{option_map, ok_or}
use Rattle.reader.specs.declared.faults.Refusal.{Refusal}
use Rattle.reader.specs.declared.faults.Refusal.TheVariants as refusal
use Rattle.uploads.specs.declared.calls.Call.{Call}
use Rattle.uploads.specs.Calls.{Told, call_of}
use Rattle.uploads.specs.Answers.{Taken, Answer, taken, Answered}
use Rattle.grammar.specs.Grammar.{Lawful}
use Rattle.lists.specs.Lists.{Meaning}
use Rattle.faults.specs.declared.report.Fault.{Fault}
use Rattle.verdicts.specs.Sights.{Setting}
use Rattle.judging.specs.Judging.{TellsOf}
use Rattle.judging.specs.declared.upload.Counts.{Counts}
use Rattle.judging.specs.Inputs as judging
use Rattle.judging.specs.Inputs.{IsInput, told, Makes, CallIn, Judgement, bad_line, refused, Judged}

-- an input makes one call
module _ (bs s d u : List ℕ) (p : IsInput bs s d u) where
  pub behind_sender : drop 10 bs ≡ 0x20 ∷ (d ++ (0x0a ∷ u))
  behind_sender = ap (drop 10) p.is ∙ drop_at s (0x20 ∷ (d ++ (0x0a ∷ u))) 10 p.ten

  pub behind_day : drop 7 (drop 1 (drop 10 bs)) ≡ 0x0a ∷ u
  behind_day = ap (λ x. drop 7 (drop 1 x)) behind_sender ∙ drop_at d (0x0a ∷ u) 7 p.seven

  its_call : told (take 10 bs) (take 7 (drop 1 (drop 10 bs))) (drop 1 (drop 7 (drop 1 (drop 10 bs)))) ≡ told s d u
  its_call =
      let sender = ap (take 10) p.is ∙ take_at s (0x20 ∷ (d ++ (0x0a ∷ u))) 10 p.ten in
      let day = ap (λ x. take 7 (drop 1 x)) behind_sender ∙ take_at d (0x0a ∷ u) 7 p.seven in
      λ i. told (sender i) (day i) (drop 1 (behind_day i))

-- what is told of an upload is one thing
same_tells : (s : Setting) (u : List ℕ) (before a b : List Fault) (c d : Counts) → Lawful u → TellsOf s u before c a → TellsOf s u before d b → (c ≡ d) × (a ≡ b)
same_tells s u before a b c d l h k =
    let x = h.tells l in
    let y = k.tells l in
    (λ i. record { records = (x.records ∙ sym y.records) i; accepted = (x.accepted ∙ sym y.accepted) i; faults = (x.faults ∙ sym y.faults) i }, x.rows ∙ sym y.rows)

lawful_in : (c : Told) (t : Taken) → Answer c (Ok t) → Lawful t.upload
lawful_in c _ (taken s w f n) = w.lawful

pub ok_is : {A B : Type 0} (a b : A) → ◌≡◌ {A = Result A B} (Ok a) (Ok b) → a ≡ b
ok_is a b e = cc

pub err_is : {A B : Type 0} (a b : B) → ◌≡◌ {A = Result A B} (Err a) (Err b) → a ≡ b
err_is a b e = cc

module _ (m : Meaning) (bs : List ℕ) (before : List Fault) where
  one : (r q : Result Counts Refusal) (a b : List Fault) → Judgement m bs before r a → Judgement m bs before q b → (r ≡ q) × (a ≡ b)
  one _ _ _ _ (bad_line h) (bad_line k) = (refl, refl)
  one _ _ _ _ (bad_line h) (refused {s} {d} {u} p x) = absurd (h s d u p)
  one _ _ _ _ (bad_line h) (judging.taken {s} {d} {u} p x t) = absurd (h s d u p)
  one _ _ _ _ (refused {s} {d} {u} p x) (bad_line k) = absurd (k s d u p)
  one _ _ _ _ (judging.taken {s} {d} {u} p x t) (bad_line k) = absurd (k s d u p)
  one _ _ _ _ (refused {s} {d} {u} {r} p x) (refused {s = y} {d = e} {u = v} {r = w} q z) =
      let e = (subst (λ (c : Told). Answered c (Err r)) (sym (its_call bs s d u p) ∙ its_call bs y e v q) x).only (Err w) z.law in
      (let n : r ≡ w = cc in ap (λ f. Err f) n, refl)
  one _ _ _ _ (refused {s} {d} {u} {r} p x) (judging.taken {s = y} {d = e} {u = v} {t = w} q z t) =
      let e = (subst (λ (c : Told). Answered c (Err r)) (sym (its_call bs s d u p) ∙ its_call bs y e v q) x).only (Ok w) z.law in
      absurd cc
  one _ _ _ _ (judging.taken {s} {d} {u} {t = w} p x t) (refused {s = y} {d = e} {u = v} {r} q z) =
      let e = (subst (λ (c : Told). Answered c (Err r)) (sym (its_call bs y e v q) ∙ its_call bs s d u p) z).only (Ok w) x.law in
      absurd cc
  one _ _ a b (judging.taken {s} {d} {u} {t = w} {c} p x t) (judging.taken {s = y} {d = e} {u = v} {t = o} {c = g} q z k) =
      let i = ok_is w o ((subst (λ (c : Told). Answered c (Ok w)) (sym (its_call bs s d u p) ∙ its_call bs y e v q) x).only (Ok o) z.law) in
      let h = subst (λ (f : Taken). TellsOf (record { today = f.day; listed = m }) f.upload before c a) i t in
      let j = same_tells _ o.upload before a b c g (lawful_in _ o z.law) h k in
      (ap (λ f. Ok f) j.0, j.1)

  judged : (r : Result Counts Refusal) (a : List Fault) → Judgement m bs before r a → Judged m bs before r a
  judged r a h = record { law = h; only = λ q b k. one r q a b h k }

  pub no_call : (o : Option Call) (r : Refusal) → CallIn bs (option_map call_of o) → Err r ≡ ok_or o refusal.Call → Judged m bs before (Err r) before
  no_call None r h e = let is : r ≡ refusal.Call = cc in rw is (judged (Err refusal.Call) before (bad_line h))
  no_call (Some c) r h e = absurd cc

  its_input : (o : Option Call) (c : Call) → CallIn bs (option_map call_of o) → o ≡ Some c → Makes bs (call_of c)
  its_input o c h e = MatchOption-at_some _ (Makes bs) (call_of c) (ap (option_map call_of) e) h

  its_answer : (c : Call) (r : Result Taken Refusal) → Makes bs (call_of c) → Answered (call_of c) r → Answered (told c.sender.now c.day.now c.upload.now) r
  its_answer c r k a =
      let same : call_of c ≡ told c.sender.now c.day.now c.upload.now =
      λ i. record { sender = c.sender.now; day = c.day.now; upload = c.upload.now; rows = k.rows i } in
      subst (λ (x : Told). Answered x r) same a

  pub refused_call : (o : Option Call) (c : Call) (r : Refusal) → CallIn bs (option_map call_of o) → o ≡ Some c → Answered (call_of c) (Err r) → Judged m bs before (Err r) before
  refused_call o c r h e a =
      let k = its_input o c h e in
      judged (Err r) before (refused k.input (its_answer c (Err r) k a))

  pub taken_call : (o : Option Call) (c : Call) (t : Taken) (n : Counts) (after : List Fault) → CallIn bs (option_map call_of o) → o ≡ Some c → Answered (call_of c) (Ok t)
      → TellsOf (record { today = t.day; listed = m }) t.upload before n after → Judged m bs before (Ok n) after
  taken_call o c t n after h e a d =
      let k = its_input o c h e in
      judged (Ok n) after (judging.taken k.input (its_answer c (Ok t) k a) d)

-- what the parts of an input tell
pub cut : (n : ℕ) (bs front back : List ℕ) → front ≡ take n bs → back ≡ drop n bs → bs ≡ front ++ back
cut n bs front back f b = rw (f, b) (sym (take-append-drop n bs))

module _ (b : ℕ) (bs : List ℕ) where
  pub stripped : (rest : List ℕ) → pointwise nat_eq (take 1 bs) (b ∷ []) ≡ true → rest ≡ drop 1 bs → bs ≡ b ∷ rest
  stripped rest t e = cut 1 bs (b ∷ []) rest (sym (same_text (take 1 bs) (b ∷ []) (sym t))) e

  pub not_stripped : (rest : List ℕ) → pointwise nat_eq (take 1 bs) (b ∷ []) ≡ false → bs ≡ b ∷ rest → ⊥
  not_stripped rest f e = other_text (take 1 bs) (b ∷ []) (sym f) (ap (take 1) e)
