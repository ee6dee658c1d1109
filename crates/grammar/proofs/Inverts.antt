-- One byte more: what a thread takes, and what it gives back. Assumes nothing.
use Rattle.std.proofs.Common.{◌≡◌, ℕ, Bool, true, false, eqb, ◌⊎◌, List, [], ◌∷◌, ◌++◌, codes, sym, refl, ap, ◌∙◌, subst, inl, inr, arith}
use Rattle.std.proofs.lemmas.Bool.{cond_both, cond-true, cond-false, eqb-true, eq-eqb}
use Rattle.std.proofs.lemmas.Bool.Decides.{nat_tests}
use Rattle.calendar.specs.Digits.{is_digit}
use Rattle.grammar.specs.Bytes.{white, plain, lead, trail, capital}
use Rattle.grammar.specs.Grammar.{Value, empty, one, pair, Id, letters, opening, closing, spelling, Turn, opens_records, opens_record, opens_header, closes_header, opens_body, opens_visit, closes_visit, opens_order, closes_order, closes_body, closes_record, closes_records, Path, here, skips, turns, holds}
use Rattle.grammar.specs.Tags.{element, behind}
use Rattle.grammar.specs.Threads.{Thread, spells, named, tens, ones, shut, value, trails, slash, repeats, InValue, InValue.closes, InValue.one as in_one, InValue.pair as in_pair, Spelt, After, SomeAfter, opens, when, step}
use Rattle.grammar.specs.declared.states.Segment.{Segment}
use Rattle.grammar.specs.declared.states.Segment.TheVariants.{Header, Visit, Order}
use Rattle.grammar.specs.declared.states.State.{State}
use Rattle.grammar.specs.declared.states.State.TheVariants.{Start, Records, Record, Within, Headed, Body, Orders, Bodied, Done}
use Rattle.grammar.specs.declared.states.Tag.{Tag}
use Rattle.grammar.specs.declared.states.Tag.TheVariants.{Close}
use Rattle.grammar.specs.declared.states.FieldId.{FieldId}

pub plain_alone : (x : ℕ) → plain x ≡ true → eqb x 0x3c ≡ false
plain_alone x h = grind (arith, nat_tests)

pub lead_alone : (x : ℕ) → lead x ≡ true → (eqb x 0x3c ≡ false) × (plain x ≡ false)
lead_alone x h = grind (arith, nat_tests)

pub closes_segment : (g : Segment) → Turn (Within g) (Close (element g)) (behind (Close (element g)))
closes_segment Header = closes_header
closes_segment Visit = closes_visit
closes_segment Order = closes_order

module _ (m : State) where
  pub spelt : (t : List ℕ) (s : State) (w : List ℕ) → Path s w m → Spelt m t s (t ++ w)
  spelt [] s w r = r
  spelt (x ∷ t) s w r = (refl, spelt t s w r)

  pub unspelt : (t : List ℕ) (s : State) (w : List ℕ) → Spelt m t s w → (v : List ℕ) × (w ≡ t ++ v) × Path s v m
  unspelt [] s w r = (w, refl, r)
  unspelt (x ∷ t) s [] h = absurd h
  unspelt (x ∷ t) s (y ∷ w) h =
      let p = unspelt t s w h.1 in
      (p.0, (λ i. h.0 i ∷ p.1 i), p.2)

  in_value : (g : Segment) (i : FieldId) {v : List ℕ} (w : List ℕ) → Value v → Path (Within g) w m → InValue m g i (v ++ (closing i ++ w))
  in_value g i w empty r = closes r
  in_value g i w (one h v) r = in_one h (in_value g i w v r)
  in_value g i w (pair h k v) r = in_pair h k (in_value g i w v r)

  -- the first byte from a state
  abbrev pub First : State → List ℕ → Type 0
  First s [] = s ≡ m
  First s (x ∷ w) = ((white x ≡ true) × Path s w m) ⊎ ((x ≡ 0x3c) × SomeAfter m (opens s) w)

  turned : {s n : State} {t : Tag} (w : List ℕ) → Turn s t n → Path n w m → First s (spelling t ++ w)
  turned w opens_records r = inr (refl, inl (spelt (codes "RECS>") Records w r))
  turned w opens_record r = inr (refl, inl (spelt (codes "REC>") Record w r))
  turned w opens_header r = inr (refl, inl (spelt (codes "MSH>") (Within Header) w r))
  turned w closes_header r = inr (refl, inl (spelt (codes "/MSH>") Headed w r))
  turned w opens_body r = inr (refl, inl (spelt (codes "MB>") Body w r))
  turned w opens_visit r = inr (refl, inl (spelt (codes "MB1>") (Within Visit) w r))
  turned w closes_visit r = inr (refl, inl (spelt (codes "/MB1>") Orders w r))
  turned w opens_order r = inr (refl, inl (spelt (codes "MB2>") (Within Order) w r))
  turned w closes_order r = inr (refl, inl (spelt (codes "/MB2>") Orders w r))
  turned w closes_body r = inr (refl, inr (inl (spelt (codes "/MB>") Bodied w r)))
  turned w closes_record r = inr (refl, inl (spelt (codes "/REC>") Records w r))
  turned w closes_records r = inr (refl, inr (inl (spelt (codes "/RECS>") Done w r)))

  pub first : {s : State} {w : List ℕ} → Path s w m → First s w
  first here = refl
  first (skips h r) = inl (h, r)
  first (turns {w = w} t r) = turned w t r
  first (holds {g = g} {i = i} {w = w} d h r) = inr (refl, inr (inl (d.letter, (d.tens, (d.ones, (refl, in_value g i w h r))))))

  -- a whole tag behind the <
  whole : (P : List ℕ → Type 0) (t : List ℕ) (n : State) (make : (v : List ℕ) → Path n v m → P (t ++ v)) (w : List ℕ) → Spelt m t n w → P w
  whole P t n make w h =
      let p = unspelt t n w h in
      subst P (sym p.1) (make p.0 p.2)

  record Valued (g : Segment) (i : FieldId) (w : List ℕ) : Type 0 where
    text : List ℕ
    rest : List ℕ
    lawful : Value text
    is : w ≡ text ++ (closing i ++ rest)
    after : Path (Within g) rest m

  valued : (g : Segment) (i : FieldId) {w : List ℕ} → InValue m g i w → Valued g i w
  valued g i (closes {w} r) = record { text = []; rest = w; lawful = empty; is = refl; after = r }
  valued g i (in_one {x} h r) =
      let p = valued g i r in
      record { text = x ∷ p.text; rest = p.rest; lawful = one h p.lawful; is = ap (λ u. x ∷ u) p.is; after = p.after }
  valued g i (in_pair {x} {y} h k r) =
      let p = valued g i r in
      record { text = x ∷ y ∷ p.text; rest = p.rest; lawful = pair h k p.lawful; is = ap (λ u. x ∷ y ∷ u) p.is; after = p.after }

  field : (g : Segment) (i : FieldId) (w : List ℕ) → Id i → InValue m g i w → Path (Within g) (opening i ++ w) m
  field g i w d h =
      let p = valued g i h in
      subst (λ (u : List ℕ). Path (Within g) (opening i ++ u) m) (sym p.is) (holds d p.lawful p.after)

  in_field : (g : Segment) (w : List ℕ) → After m (named g) w → Path (Within g) (0x3c ∷ w) m
  in_field g [] h = absurd h
  in_field g (a ∷ []) h = absurd h.1
  in_field g (a ∷ b ∷ []) h = absurd h.1.1
  in_field g (a ∷ b ∷ c ∷ []) h = absurd h.1.1.1
  in_field g (a ∷ b ∷ c ∷ x ∷ w) h =
      subst (λ (y : ℕ). Path (Within g) (0x3c ∷ a ∷ b ∷ c ∷ y ∷ w) m) (sym h.1.1.1.0)
      (field g (record { letter = a; tens = b; ones = c }) w (record { letter = h.0; tens = h.1.0; ones = h.1.1.0 }) h.1.1.1.1)

  opened_by : (s n : State) (t : List ℕ) (w : List ℕ) → ((v : List ℕ) → Path n v m → Path s (0x3c ∷ (t ++ v)) m) → Spelt m t n w → Path s (0x3c ∷ w) m
  opened_by s n t w make h = whole (λ u. Path s (0x3c ∷ u) m) t n make w h

  opened : (s : State) (w : List ℕ) → SomeAfter m (opens s) w → Path s (0x3c ∷ w) m
  opened Start w (inl h) = opened_by Start Records (codes "RECS>") w (λ v. turns opens_records) h
  opened Start w (inr h) = absurd h
  opened Records w (inl h) = opened_by Records Record (codes "REC>") w (λ v. turns opens_record) h
  opened Records w (inr (inl h)) = opened_by Records Done (codes "/RECS>") w (λ v. turns closes_records) h
  opened Records w (inr (inr h)) = absurd h
  opened Record w (inl h) = opened_by Record (Within Header) (codes "MSH>") w (λ v. turns opens_header) h
  opened Record w (inr h) = absurd h
  opened (Within Header) w (inl h) = opened_by (Within Header) Headed (codes "/MSH>") w (λ v. turns closes_header) h
  opened (Within Visit) w (inl h) = opened_by (Within Visit) Orders (codes "/MB1>") w (λ v. turns closes_visit) h
  opened (Within Order) w (inl h) = opened_by (Within Order) Orders (codes "/MB2>") w (λ v. turns closes_order) h
  opened (Within g) w (inr (inl h)) = in_field g w h
  opened (Within g) w (inr (inr h)) = absurd h
  opened Headed w (inl h) = opened_by Headed Body (codes "MB>") w (λ v. turns opens_body) h
  opened Headed w (inr h) = absurd h
  opened Body w (inl h) = opened_by Body (Within Visit) (codes "MB1>") w (λ v. turns opens_visit) h
  opened Body w (inr h) = absurd h
  opened Orders w (inl h) = opened_by Orders (Within Order) (codes "MB2>") w (λ v. turns opens_order) h
  opened Orders w (inr (inl h)) = opened_by Orders Bodied (codes "/MB>") w (λ v. turns closes_body) h
  opened Orders w (inr (inr h)) = absurd h
  opened Bodied w (inl h) = opened_by Bodied Records (codes "/REC>") w (λ v. turns closes_record) h
  opened Bodied w (inr h) = absurd h
  opened Done w h = absurd h

  -- one byte of a thread
  when_into : (b : Bool) (t : Thread) (w : List ℕ) → b ≡ true → After m t w → SomeAfter m (when b t) w
  when_into b t w e h = subst (λ (c : Bool). SomeAfter m (when c t) w) (sym e) (inl h)

  when_back : (b : Bool) (t : Thread) (w : List ℕ) → SomeAfter m (when b t) w → (b ≡ true) × After m t w
  when_back true t w (inl h) = (refl, h)
  when_back true t w (inr h) = absurd h
  when_back false t w h = absurd h

  abbrev pub FirstIn : Segment → FieldId → List ℕ → Type 0
  FirstIn g i [] = ⊥
  FirstIn g i (x ∷ w) = ((x ≡ 0x3c) × After m (slash g i) w) ⊎ (((plain x ≡ true) × InValue m g i w) ⊎ ((lead x ≡ true) × After m (trails g i) w))

  pub first_in : (g : Segment) (i : FieldId) {w : List ℕ} → InValue m g i w → FirstIn g i w
  first_in g i (closes {w} r) = inl (refl, spelt (0x2f ∷ (letters i ++ (0x3e ∷ []))) (Within g) w r)
  first_in g i (in_one h r) = inr (inl (h, r))
  first_in g i (in_pair h k r) = inr (inr (h, (k, r)))

  at_threads : (w : List ℕ) {ts us : List Thread} → ts ≡ us → SomeAfter m us w → SomeAfter m ts w
  at_threads w e h = subst (λ (vs : List Thread). SomeAfter m vs w) (sym e) h

  from_state : (x : ℕ) (s : State) (w : List ℕ) → First s (x ∷ w) → SomeAfter m (step x (spells [] s)) w
  from_state x s w (inl h) = at_threads w (cond-true _ _ _ h.0) (inl h.1)
  from_state x s w (inr h) = subst (λ (y : ℕ). SomeAfter m (step y (spells [] s)) w) (sym h.0) h.1

  from_value : (x : ℕ) (g : Segment) (i : FieldId) (w : List ℕ) → FirstIn g i (x ∷ w) → SomeAfter m (step x (value g i)) w
  from_value x g i w (inl h) = at_threads w (cond-true _ _ _ (eq-eqb x 0x3c h.0)) (inl h.1)
  from_value x g i w (inr (inl h)) = at_threads w (cond-false _ _ _ (plain_alone x h.0) ∙ cond-true _ _ _ h.0) (inl h.1)
  from_value x g i w (inr (inr h)) =
      let k = lead_alone x h.0 in
      at_threads w (cond-false _ _ _ k.0 ∙ cond-false _ _ _ k.1) (when_into (lead x) (trails g i) w h.0 h.1)

  pub step_into : (x : ℕ) (t : Thread) (w : List ℕ) → After m t (x ∷ w) → SomeAfter m (step x t) w
  step_into x (spells [] s) w h = from_state x s w (first h)
  step_into x (spells (y ∷ t) s) w h = when_into (eqb x y) (spells t s) w (eq-eqb x y h.0) h.1
  step_into x (named g) w h = when_into (capital x) (tens g x) w h.0 h.1
  step_into x (tens g a) w h = when_into (is_digit x) (ones g a x) w h.0 h.1
  step_into x (ones g a b) w h = when_into (is_digit x) (shut g (record { letter = a; tens = b; ones = x })) w h.0 h.1
  step_into x (shut g i) w h = when_into (eqb x 0x3e) (value g i) w (eq-eqb x 0x3e h.0) h.1
  step_into x (value g i) w h = from_value x g i w (first_in g i h)
  step_into x (trails g i) w h = when_into (trail x) (value g i) w h.0 h.1
  step_into x (slash g i) w h = when_into (eqb x 0x2f) (repeats (letters i) g) w (eq-eqb x 0x2f h.0) h.1
  step_into x (repeats [] g) w h = when_into (eqb x 0x3e) (spells [] (Within g)) w (eq-eqb x 0x3e h.0) h.1
  step_into x (repeats (y ∷ t) g) w h = when_into (eqb x y) (repeats t g) w (eq-eqb x y h.0) h.1

  to_state : (x : ℕ) (s : State) (w : List ℕ) → SomeAfter m (step x (spells [] s)) w → Path s (x ∷ w) m
  to_state x s w =
      cond_both (white x) _ _ (λ ts. SomeAfter m ts w → Path s (x ∷ w) m)
      (λ e. elim [ inl h ↦ skips e h | inr h ↦ absurd h ])
      (λ _. cond_both (eqb x 0x3c) (opens s) [] (λ ts. SomeAfter m ts w → Path s (x ∷ w) m)
      (λ e h. subst (λ (y : ℕ). Path s (y ∷ w) m) (sym (eqb-true x 0x3c e)) (opened s w h))
      (λ _ h. absurd h))

  paired : (x : ℕ) (g : Segment) (i : FieldId) (w : List ℕ) → lead x ≡ true → After m (trails g i) w → InValue m g i (x ∷ w)
  paired x g i [] l h = absurd h
  paired x g i (y ∷ w) l h = in_pair l h.0 h.1

  to_value : (x : ℕ) (g : Segment) (i : FieldId) (w : List ℕ) → SomeAfter m (step x (value g i)) w → InValue m g i (x ∷ w)
  to_value x g i w =
      cond_both (eqb x 0x3c) _ _ (λ ts. SomeAfter m ts w → InValue m g i (x ∷ w))
      (λ e. elim [ inl h ↦ subst (λ (y : ℕ). InValue m g i (y ∷ w)) (sym (eqb-true x 0x3c e)) (whole (λ u. InValue m g i (0x3c ∷ u)) (0x2f ∷ (letters i ++ (0x3e ∷ []))) (Within g) (λ v. closes) w h) | inr h ↦ absurd h ])
      (λ _. cond_both (plain x) _ _ (λ ts. SomeAfter m ts w → InValue m g i (x ∷ w))
      (λ e. elim [ inl h ↦ in_one e h | inr h ↦ absurd h ])
      (λ _ h. let p = when_back (lead x) (trails g i) w h in paired x g i w p.0 p.1))

  same_byte : (x y : ℕ) (t : Thread) (w : List ℕ) → SomeAfter m (when (eqb x y) t) w → (x ≡ y) × After m t w
  same_byte x y t w h = let p = when_back (eqb x y) t w h in (eqb-true x y p.0, p.1)

  pub step_back : (x : ℕ) (t : Thread) (w : List ℕ) → SomeAfter m (step x t) w → After m t (x ∷ w)
  step_back x (spells [] s) w h = to_state x s w h
  step_back x (spells (y ∷ t) s) w h = same_byte x y (spells t s) w h
  step_back x (named g) w h = when_back (capital x) (tens g x) w h
  step_back x (tens g a) w h = when_back (is_digit x) (ones g a x) w h
  step_back x (ones g a b) w h = when_back (is_digit x) (shut g (record { letter = a; tens = b; ones = x })) w h
  step_back x (shut g i) w h = same_byte x 0x3e (value g i) w h
  step_back x (value g i) w h = to_value x g i w h
  step_back x (trails g i) w h = when_back (trail x) (value g i) w h
  step_back x (slash g i) w h = same_byte x 0x2f (repeats (letters i) g) w h
  step_back x (repeats [] g) w h = same_byte x 0x3e (spells [] (Within g)) w h
  step_back x (repeats (y ∷ t) g) w h = same_byte x y (repeats t g) w h
