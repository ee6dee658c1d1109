-- The test tells the grammar. Assumes nothing.
use Rattle.std.proofs.Common.{◌≡◌, ℕ, true, ◌⊎◌, List, [], ◌∷◌, sym, refl, ap, subst, inl, inr, append-nil}
use Rattle.std.proofs.lemmas.Bool.{true≢false, or_cases}
use Rattle.grammar.specs.Grammar.{Path, Rest, Lawful, here}
use Rattle.grammar.specs.Threads.{Thread, spells, named, tens, ones, shut, value, trails, slash, repeats, SomeAfter, run, start, is_done, ended, is_lawful_from, is_lawful}
use Rattle.grammar.specs.declared.states.State.{State}
use Rattle.grammar.specs.declared.states.State.TheVariants.{Start, Records, Record, Within, Headed, Body, Orders, Bodied, Done}
use Rattle.grammar.proofs.Runs.{run_back, lawful}
use Rattle.grammar.proofs.Walks.{path_run, leads_run}

pub done_is : (s : State) → is_done s ≡ true → s ≡ Done
done_is Start h = absurd (true≢false (sym h))
done_is Records h = absurd (true≢false (sym h))
done_is Record h = absurd (true≢false (sym h))
done_is (Within g) h = absurd (true≢false (sym h))
done_is Headed h = absurd (true≢false (sym h))
done_is Body h = absurd (true≢false (sym h))
done_is Orders h = absurd (true≢false (sym h))
done_is Bodied h = absurd (true≢false (sym h))
done_is Done h = refl

pub ended_after : (ts : List Thread) → ended ts ≡ true → SomeAfter Done ts []
ended_after [] h = absurd (true≢false (sym h))
ended_after (spells [] s ∷ ts) h = elim (or_cases (is_done s) (ended ts) h) [ inl k ↦ inl (subst (λ n. Path n [] Done) (sym (done_is s k)) here) | inr k ↦ inr (ended_after ts k) ]
ended_after (spells (x ∷ t) s ∷ ts) h = inr (ended_after ts h)
ended_after (named g ∷ ts) h = inr (ended_after ts h)
ended_after (tens g a ∷ ts) h = inr (ended_after ts h)
ended_after (ones g a b ∷ ts) h = inr (ended_after ts h)
ended_after (shut g i ∷ ts) h = inr (ended_after ts h)
ended_after (value g i ∷ ts) h = inr (ended_after ts h)
ended_after (trails g i ∷ ts) h = inr (ended_after ts h)
ended_after (slash g i ∷ ts) h = inr (ended_after ts h)
ended_after (repeats t g ∷ ts) h = inr (ended_after ts h)

only : {A : Type 0} → A ⊎ ⊥ → A
only (inl h) = h
only (inr h) = absurd h

pub rest_from_test : (s : State) (w : List ℕ) → is_lawful_from s w ≡ true → Rest s w
unfolding is_lawful_from
rest_from_test s w h = subst (Rest s) (append-nil w) (only (run_back Done (spells [] s ∷ []) w [] (ended_after _ h)))

pub test_from_rest : (s : State) (w : List ℕ) → Rest s w → is_lawful_from s w ≡ true
unfolding is_lawful_from
test_from_rest s w p = ap ended (path_run p)

pub lawful_from_test : (bs : List ℕ) → is_lawful bs ≡ true → Lawful bs
unfolding is_lawful
lawful_from_test bs h = lawful bs (run start bs) refl (ended_after _ h)

pub test_from_lawful : (bs : List ℕ) → Lawful bs → is_lawful bs ≡ true
unfolding is_lawful
test_from_lawful bs p = ap ended (leads_run bs Done p)
