-- What is expected, as far as it stands. Assumes nothing.
use Rattle.std.proofs.Common.{◌≡◌, ◌↔◌, ℕ, ◌+◌, ◌<◌, Bool, true, false, ◌==◌, Result, Ok, Err, IfOk, IfErr, List, [], ◌∷◌, ◌++◌, length, get_or, take, drop, refl, sym, ap, ◌∙◌, subst, arith}
use Rattle.std.proofs.lemmas.Bool.{true≢false, eqb-true}
use Rattle.std.proofs.lemmas.List.{take_more}
use Rattle.std.specs.Result.{is_ok}
use Rattle.std.proofs.lemmas.Grind.{common_steps}
use Rattle.reader.specs.Spans.{Spans, Departs}
use Rattle.reader.specs.Scans.{ByteMissing, TextMissing, Each, Stands, StandsTo, Missing}
use Rattle.reader.specs.declared.faults.Cause.{Cause}
use Rattle.reader.specs.declared.faults.TagFault.{TagFault}
use Rattle.reader.specs.declared.faults.TagFault.TheVariants.{Wrong, Ended}
use Rattle.reader.proofs.Spanning.{spans_more}

module _ {E : Type 0} (takes : E → ℕ → Bool) where
  each_more : (es : List E) (v : List ℕ) (e : E) (b : ℕ) → Each takes es v → takes e b ≡ true → Each takes (es ++ e ∷ []) (v ++ b ∷ [])
  each_more [] [] e b h k = (k, tt)
  each_more [] (x ∷ v) e b h k = absurd h
  each_more (d ∷ es) [] e b h k = absurd h
  each_more (d ∷ es) (x ∷ v) e b h k = (h.0, each_more es v e b h.1 k)

  module _ (u : List ℕ) (from at : ℕ) (es : List E) (i : ℕ) (e : E) (l : i < length es) (is : e ≡ get_or es i e) (stand : Stands takes u from (take i es) at) where
    stands_to : (at < length u → takes e (get_or u at 0) ≡ false) → StandsTo takes u from es at
    stands_to h =
        record {
          before = take i es;
          next = e;
          rest = drop (i + 1) es;
          expected = grind (arith, common_steps);
          stand = stand;
          refuses = h;
        }

    pub missing : (c : Cause) (f : TagFault) → ByteMissing u at (takes e) c f → Missing takes u from es c f
    missing c (Wrong b k) (q, p, m, n) = (q, m, subst (StandsTo takes u from es) (sym p) (stands_to (λ _. subst (λ (j : ℕ). takes e (get_or u j 0) ≡ false) p n)))
    missing c (Ended k) (p, q) = (q, subst (StandsTo takes u from es) (sym p) (stands_to (λ m. absurd (omega arith))))

    pub stands_more : (to : ℕ) → at < length u → takes e (get_or u at 0) ≡ true → to ≡ at + 1 → Stands takes u from (take (i + 1) es) to
    stands_more to m h q =
        record {
          bytes = stand.bytes ++ get_or u at 0 ∷ [];
          each =
              subst (λ (x : List E). Each takes x (stand.bytes ++ get_or u at 0 ∷ []))
              (sym (take_more es i e l ∙ ap (λ (x : E). take i es ++ x ∷ []) (sym is)))
              (each_more (take i es) stand.bytes e (get_or u at 0) stand.each h);
          spans = subst (Spans u from (stand.bytes ++ get_or u at 0 ∷ [])) (sym q) (spans_more u from at stand.bytes stand.spans m);
        }

-- a text, whose bytes each take themselves
abbrev pub same : ℕ → ℕ → Bool
same e b = b == e

each_same : (t v : List ℕ) → Each same t v → v ≡ t
each_same [] [] h = refl
each_same [] (b ∷ v) h = absurd h
each_same (e ∷ t) [] h = absurd h
each_same (e ∷ t) (b ∷ v) h = λ i. eqb-true b e h.0 i ∷ each_same t v h.1 i

module _ (u : List ℕ) (from : ℕ) where
  pub text_stands : (t : List ℕ) (to : ℕ) → Stands same u from t to → Spans u from t to
  text_stands t to h = subst (λ (v : List ℕ). Spans u from v to) (each_same t h.bytes h.each) h.spans

  departs : (t : List ℕ) (k : ℕ) → StandsTo same u from t k → Departs u from t k
  departs t k h = record { read = h.before; next = h.next; rest = h.rest; text = h.expected; spans = text_stands h.before k h.stand; refuses = h.refuses }

  pub text_missing : (t : List ℕ) (c : Cause) (f : TagFault) → Missing same u from t c f → TextMissing u from t c f
  text_missing t c (Wrong d k) (e, l, h) = (e, l, departs t k h)
  text_missing t c (Ended k) (l, h) = (l, departs t k h)

  -- a text that departs does not stand
  pub departs_not : (t : List ℕ) (k to : ℕ) → Departs u from t k → Spans u from t to → ⊥
  departs_not t k to d p = grind (arith, common_steps)

  pub text_found : {T : Type 0} (at : T → ℕ) (t : List ℕ) (c : Cause) (r : Result T TagFault)
      → IfOk r (λ p. at p ≡ from + length t) → IfOk r (λ p. Stands same u from t (at p)) → IfErr r (λ f. Missing same u from t c f)
      → (is_ok r ≡ true) ↔ Spans u from t (from + length t)
  text_found at t c (Ok p) e h m = ((λ _. subst (Spans u from t) e (text_stands t (at p) h)), (λ _. refl))
  text_found at t c (Err (Wrong d k)) e h (q, l, m) = ((λ q. absurd (true≢false (sym q))), (λ p. absurd (departs_not t k _ (departs t k m) p)))
  text_found at t c (Err (Ended k)) e h (l, m) = ((λ q. absurd (true≢false (sym q))), (λ p. absurd (departs_not t k _ (departs t k m) p)))
