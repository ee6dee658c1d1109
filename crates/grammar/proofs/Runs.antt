-- Many bytes: what may follow them, and that something may. Assumes nothing.
use Rattle.std.proofs.Common.{◌≡◌, ℕ, ◌⊎◌, ◌↔◌, List, [], ◌∷◌, ◌++◌, sym, refl, subst, inl, inr, append-nil}
use Rattle.grammar.specs.Grammar.{declaration, letters, closes_record, closes_records, opens_records, opens_header, opens_body, closes_body, opens_visit, closes_header, closes_visit, closes_order, here, turns, Rest, Leads, Lawful, Begins}
use Rattle.grammar.specs.Threads.{Thread, spells, named, tens, ones, shut, value, trails, slash, repeats, InValue, InValue.closes, Spelt, After, SomeAfter, step, steps, run, start}
use Rattle.grammar.specs.declared.states.Segment.{Segment}
use Rattle.grammar.specs.declared.states.Segment.TheVariants.{Header, Visit, Order}
use Rattle.grammar.specs.declared.states.State.{State}
use Rattle.grammar.specs.declared.states.State.TheVariants.{Start, Records, Record, Within, Headed, Body, Orders, Bodied, Done}
use Rattle.grammar.specs.declared.states.FieldId.{FieldId}
use Rattle.grammar.proofs.Inverts.{spelt, unspelt, step_into, step_back}

module _ (m : State) where
  some_left : (ts us : List Thread) (w : List ℕ) → SomeAfter m ts w → SomeAfter m (ts ++ us) w
  some_left [] us w h = absurd h
  some_left (t ∷ ts) us w (inl h) = inl h
  some_left (t ∷ ts) us w (inr h) = inr (some_left ts us w h)

  some_right : (ts us : List Thread) (w : List ℕ) → SomeAfter m us w → SomeAfter m (ts ++ us) w
  some_right [] us w h = h
  some_right (t ∷ ts) us w h = inr (some_right ts us w h)

  some_split : (ts us : List Thread) (w : List ℕ) → SomeAfter m (ts ++ us) w → SomeAfter m ts w ⊎ SomeAfter m us w
  some_split [] us w h = inr h
  some_split (t ∷ ts) us w (inl h) = inl (inl h)
  some_split (t ∷ ts) us w (inr h) = elim (some_split ts us w h) [ inl k ↦ inl (inr k) | inr k ↦ inr k ]

  steps_into : (x : ℕ) (ts : List Thread) (w : List ℕ) → SomeAfter m ts (x ∷ w) → SomeAfter m (steps x ts) w
  steps_into x [] w h = h
  steps_into x (t ∷ ts) w (inl h) = some_left (step x t) (steps x ts) w (step_into m x t w h)
  steps_into x (t ∷ ts) w (inr h) = some_right (step x t) (steps x ts) w (steps_into x ts w h)

  steps_back : (x : ℕ) (ts : List Thread) (w : List ℕ) → SomeAfter m (steps x ts) w → SomeAfter m ts (x ∷ w)
  steps_back x [] w h = h
  steps_back x (t ∷ ts) w h =
      elim (some_split (step x t) (steps x ts) w h) [ inl k ↦ inl (step_back m x t w k) | inr k ↦ inr (steps_back x ts w k) ]

  pub run_into : (ts : List Thread) (u w : List ℕ) → SomeAfter m ts (u ++ w) → SomeAfter m (run ts u) w
  run_into ts [] w h = h
  run_into ts (x ∷ u) w h = run_into (steps x ts) u w (steps_into x ts (u ++ w) h)

  pub run_back : (ts : List Thread) (u w : List ℕ) → SomeAfter m (run ts u) w → SomeAfter m ts (u ++ w)
  run_back ts [] w h = h
  run_back ts (x ∷ u) w h = steps_back x ts (u ++ w) (run_back (steps x ts) u w h)

pub run_append : (ts : List Thread) (u w : List ℕ) → run ts (u ++ w) ≡ run (run ts u) w
run_append ts [] w = refl
run_append ts (x ∷ u) w = run_append (steps x ts) u w

pub run_none : (w : List ℕ) → run [] w ≡ []
run_none [] = refl
run_none (x ∷ w) = run_none w

-- every state has an ending, and every thread
records_ending : (w : List ℕ) × Rest Records w
records_ending = (_, turns closes_records here)

bodied_ending : (w : List ℕ) × Rest Bodied w
bodied_ending = (_, turns closes_record records_ending.1)

orders_ending : (w : List ℕ) × Rest Orders w
orders_ending = (_, turns closes_body bodied_ending.1)

visit_ending : (w : List ℕ) × Rest (Within Visit) w
visit_ending = (_, turns closes_visit orders_ending.1)

body_ending : (w : List ℕ) × Rest Body w
body_ending = (_, turns opens_visit visit_ending.1)

headed_ending : (w : List ℕ) × Rest Headed w
headed_ending = (_, turns opens_body body_ending.1)

header_ending : (w : List ℕ) × Rest (Within Header) w
header_ending = (_, turns closes_header headed_ending.1)

pub ending : (s : State) → (w : List ℕ) × Rest s w
ending Done = (_, here)
ending Records = records_ending
ending Bodied = bodied_ending
ending Orders = orders_ending
ending (Within Order) = (_, turns closes_order orders_ending.1)
ending (Within Visit) = visit_ending
ending Body = body_ending
ending Headed = headed_ending
ending (Within Header) = header_ending
ending Record = (_, turns opens_header header_ending.1)
ending Start = (_, turns opens_records records_ending.1)

in_ending : (g : Segment) (i : FieldId) → (w : List ℕ) × InValue Done g i w
in_ending g i = (_, closes (ending (Within g)).1)

spelt_ending : (t : List ℕ) (s : State) → (w : List ℕ) × Spelt Done t s w
spelt_ending t s = (t ++ (ending s).0, spelt Done t s (ending s).0 (ending s).1)

abbrev a00 : FieldId
a00 = record { letter = 65; tens = 48; ones = 48 }

thread_ending : (t : Thread) → (w : List ℕ) × After Done t w
thread_ending (spells t s) = spelt_ending t s
thread_ending (named g) = (65 ∷ 48 ∷ 48 ∷ 62 ∷ (in_ending g a00).0, (refl, (refl, (refl, (refl, (in_ending g a00).1)))))
thread_ending (tens g a) = let i : FieldId = record { letter = a; tens = 48; ones = 48 } in (48 ∷ 48 ∷ 62 ∷ (in_ending g i).0, (refl, (refl, (refl, (in_ending g i).1))))
thread_ending (ones g a b) = let i : FieldId = record { letter = a; tens = b; ones = 48 } in (48 ∷ 62 ∷ (in_ending g i).0, (refl, (refl, (in_ending g i).1)))
thread_ending (shut g i) = (62 ∷ (in_ending g i).0, (refl, (in_ending g i).1))
thread_ending (value g i) = in_ending g i
thread_ending (trails g i) = (64 ∷ (in_ending g i).0, (refl, (in_ending g i).1))
thread_ending (slash g i) = spelt_ending (0x2f ∷ (letters i ++ (0x3e ∷ []))) (Within g)
thread_ending (repeats t g) = spelt_ending (t ++ (0x3e ∷ [])) (Within g)

-- the threads behind u are ts
abbrev pub Stands : List ℕ → List Thread → Type 0
Stands u ts = run start u ≡ ts

only : (m : State) (t : Thread) (w : List ℕ) → SomeAfter m (t ∷ []) w → After m t w
only m t w (inl h) = h
only m t w (inr h) = absurd h

-- a whole upload is what its thread takes
pub leads_into : (m : State) (u : List ℕ) → Leads u m → SomeAfter m start u
leads_into m u h = inl (subst (Spelt m declaration Start) (sym h.declared) (spelt m declaration Start h.rest h.path))

leads_back : (m : State) (u : List ℕ) → SomeAfter m start u → Leads u m
leads_back m u h = let p = unspelt m declaration Start u (only m (spells declaration Start) u h) in record { rest = p.0; declared = p.1; path = p.2 }

module _ (u : List ℕ) (ts : List Thread) (stands : Stands u ts) where
  pub follows : (m : State) (w : List ℕ) → Leads (u ++ w) m → SomeAfter m ts w
  follows m w h = subst (λ (vs : List Thread). SomeAfter m vs w) stands (run_into m start u w (leads_into m (u ++ w) h))

  pub leads : (m : State) (w : List ℕ) → SomeAfter m ts w → Leads (u ++ w) m
  leads m w h = leads_back m (u ++ w) (run_back m start u w (subst (λ (vs : List Thread). SomeAfter m vs w) (sym stands) h))

  pub lawful : SomeAfter Done ts [] → Lawful u
  lawful h = subst Lawful (append-nil u) (leads Done [] h)

pub begins : (u : List ℕ) (t : Thread) (ts : List Thread) → Stands u (t ∷ ts) → Begins u
begins u t ts e = let p = thread_ending t in (p.0, leads u _ e Done p.0 (inl p.1))

pub begins_not : (u : List ℕ) → Stands u [] → Begins u → ⊥
begins_not u e h = follows u [] e Done h.0 h.1

-- the upload stands in the state s behind u, and goes on as from it
pub going_on : (u : List ℕ) (s : State) → Stands u (spells [] s ∷ []) → (w : List ℕ) → Lawful (u ++ w) ↔ Rest s w
going_on u s e w = ((λ h. only Done (spells [] s) w (follows u _ e Done w h)), (λ h. leads u _ e Done w (inl h)))
