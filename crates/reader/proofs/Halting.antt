-- Where a token breaks off, no lawful upload goes on. Assumes nothing.
use Rattle.std.proofs.lemmas.Grind.{common_steps}
use Rattle.std.proofs.Common.{◌≡◌, ℕ, ◌+◌, ◌<◌, ◌≤◌, Bool, true, false, cond, eqb, ◌==◌, List, [], ◌∷◌, ◌++◌, length, get_or, take, drop, codes, refl, sym, ap, ◌∙◌, subst, append-nil, length-append, arith}
use Rattle.std.proofs.lemmas.List.{get_or-drop}
use Rattle.std.proofs.lemmas.Bool.{cond-false, eq-eqb, eqb-true, true≢false}
use Rattle.grammar.specs.Bytes.{trail}
use Rattle.calendar.specs.Digits.{is_digit}
use Rattle.grammar.specs.Ahead.{closes}
use Rattle.grammar.specs.Grammar.{letters, opening, name, spelling, Turn, opens_records, opens_record, opens_header, closes_header, opens_body, opens_visit, closes_visit, opens_order, closes_order, closes_body, closes_record, closes_records}
use Rattle.grammar.specs.Tags.{element, behind, wanted}
use Rattle.grammar.specs.Threads.{Thread, spells, named, tens, ones, shut, value, trails, slash, repeats, opens, when, steps, run, start, ended}
use Rattle.grammar.specs.declared.states.Segment.{Segment}
use Rattle.grammar.specs.declared.states.State.{State}
use Rattle.grammar.specs.declared.states.State.TheVariants.{Start, Records, Record, Within, Headed, Body, Orders, Bodied, Done}
use Rattle.grammar.specs.declared.states.Tag.{Tag}
use Rattle.grammar.specs.declared.states.Tag.TheVariants.{Open, Close}
use Rattle.grammar.specs.declared.states.FieldId.{FieldId}
use Rattle.grammar.specs.declared.states.Wanted.TheVariants as want
use Rattle.grammar.proofs.Runs.{run_append}
use Rattle.grammar.proofs.Walks.{leads_run, opening_run, value_run, repeats_run, spells_front, lead_on, letter_on, on}
use Rattle.grammar.proofs.Wants.{wanted_turn, wanted_field, wanted_nothing}
use Rattle.reader.proofs.Spanning.{spans_join, spans_none}
use Rattle.reader.specs.Spans.{Spans, Refuses, Departs, Settles, Halved, half, none_after}
use Rattle.reader.specs.Scans.{fits, Each, ClassesBreak, ValueBreaksAt}
use Rattle.reader.specs.Readings.{opening_classes, Fails, in_structure, in_opening, behind_all, in_value, at_slash, in_id, at_end}
use Rattle.reader.specs.Moves.{InField, Reached, StandsAt}
use Rattle.reader.specs.declared.classes.Class.{Class}
use Rattle.reader.specs.declared.classes.Class.TheVariants.{Byte, Capital, Digit}
use Rattle.reader.specs.declared.stations.Station.{Station}
use Rattle.reader.specs.declared.stations.Station.TheVariants.{Between, Opened, Filled}
use Rattle.reader.specs.declared.faults.Cause.{Cause}
use Rattle.reader.specs.declared.faults.Cause.TheVariants as cause

-- the cause of a first wrong byte, told by what might have come
abbrev pub kind : List Thread → Cause
kind [] = cause.Elsewhere
kind (spells t s ∷ ts) = cause.Elsewhere
kind (named g ∷ ts) = cause.Elsewhere
kind (tens g a ∷ ts) = cause.Elsewhere
kind (ones g a b ∷ ts) = cause.Elsewhere
kind (shut g i ∷ ts) = cause.Elsewhere
kind (value g i ∷ ts) = cause.Value
kind (trails g i ∷ ts) = cause.Value
kind (slash g i ∷ ts) = cause.Elsewhere
kind (repeats [] g ∷ ts) = cause.Elsewhere
kind (repeats (x ∷ t) g ∷ ts) = cause.ClosingId

pub record Halts (u : List ℕ) (k : ℕ) (c : Cause) : Type 0 where
  pub within : k ≤ length u
  pub first : Thread
  pub others : List Thread
  pub is : run start (take k u) ≡ first ∷ others
  pub cause : kind (first ∷ others) ≡ c
  pub dies : k < length u → steps (get_or u k 0) (first ∷ others) ≡ []
  pub open_end : k ≡ length u → ended (first ∷ others) ≡ false

abbrev pub threads_of : Station → List Thread
threads_of (Between s) = spells [] s ∷ []
threads_of (Opened g i) = value g i ∷ []
threads_of (Filled g i) = value g i ∷ []

pub in_field_run : (w : List ℕ) (g : Segment) (i : FieldId) (v q : List ℕ) → InField w g i v q → run start w ≡ run (value g i ∷ []) q
in_field_run w g i v q h =
    ap (run start) h.is ∙ run_append start h.before (opening i ++ (v ++ q)) ∙ ap (λ ts. run ts (opening i ++ (v ++ q))) (leads_run h.before (Within g) h.leads)
    ∙ opening_run g i h.id (v ++ q) ∙ value_run g i q h.value

pub reached_run : (w : List ℕ) (s : Station) → Reached w s → run start w ≡ threads_of s
reached_run w (Between s) h = leads_run w s h
reached_run w (Opened g i) h = in_field_run w g i [] [] h
reached_run w (Filled g i) h = in_field_run w g i h.0 [] h.1

module _ (u : List ℕ) (at : ℕ) (s : Station) (h : Reached (take at u) s) where
  pub spans_run : (v : List ℕ) (k : ℕ) → Spans u at v k → run start (take k u) ≡ run (threads_of s) v
  spans_run v k p = ap (run start) p.is ∙ run_append start (take at u) v ∙ ap (λ ts. run ts v) (reached_run (take at u) s h)

  halts : (v : List ℕ) (k : ℕ) (t : Thread) (ts : List Thread) → Spans u at v k → run (threads_of s) v ≡ t ∷ ts → (k < length u → steps (get_or u k 0) (t ∷ ts) ≡ []) → (k ≡ length u → ended (t ∷ ts) ≡ false) → Halts u k (kind (t ∷ ts))
  halts v k t ts p e d o = record { within = p.within; first = t; others = ts; is = spans_run v k p ∙ e; cause = refl; dies = d; open_end = o }

-- ---- what a byte cannot go on

pub off : (b : Bool) (t : Thread) → b ≡ false → when b t ++ [] ≡ []
off b t e = ap (λ c. when c t ++ []) e

value_dies : (g : Segment) (i : FieldId) (x : ℕ) → none_after [] x ≡ false → steps x (value g i ∷ []) ≡ []
value_dies g i x h = grind (arith, common_steps)

module _ (u : List ℕ) (at : ℕ) (g : Segment) (i : FieldId) (h : Reached (take at u) (Opened g i)) where
  value_halts : (k : ℕ) → ValueBreaksAt u at k → Halts u k cause.Value
  value_halts k b = go b.half b.halved b.spans b.refuses
    where
      go : (q : List ℕ) → Halved q → Spans u at (b.bytes ++ q) k → Refuses u k (none_after q) → Halts u k cause.Value
      go [] n p r = halts u at (Opened g i) h (b.bytes ++ []) k (value g i) [] p (value_run g i [] b.value) (λ l. value_dies g i (get_or u k 0) (r l)) (λ _. refl)
      go (x ∷ y ∷ q) n p r = elim n [ ]
      go (x ∷ []) (half m) p r = halts u at (Opened g i) h (b.bytes ++ x ∷ []) k (trails g i) [] p (value_run g i (x ∷ []) b.value ∙ lead_on g i x m) (λ l. off (trail (get_or u k 0)) (value g i) (r l)) (λ _. refl)

room : (t v : List ℕ) (x : ℕ) (r : List ℕ) → t ≡ v ++ (x ∷ r) → length v < length t
room t v x r e = let l = ap length e in let k = length-append v (x ∷ r) in omega arith

differs : (b x : ℕ) → b ≡ x → eqb b x ≡ false → ⊥
differs b x e h = true≢false (sym (eq-eqb b x e) ∙ h)

-- ---- the closing tag of a field

module _ (u : List ℕ) (at : ℕ) (g : Segment) (i : FieldId) (h : Reached (take at u) (Filled g i)) (ready : get_or u at 0 ≡ 0x3c) (some : at < length u) where
  slash_halts : (k : ℕ) → Departs u at (codes "</") k → Halts u k cause.Elsewhere
  slash_halts k d = go d.read d.text d.spans
    where
      go : (v : List ℕ) → codes "</" ≡ v ++ (d.next ∷ d.rest) → Spans u at v k → Halts u k cause.Elsewhere
      go [] e p =
          let n : d.next ≡ 0x3c = cc in
          let at_k : at ≡ k = let l = p.ends in omega arith in
          absurd (differs (get_or u k 0) d.next (subst (λ (j : ℕ). get_or u j 0 ≡ 0x3c) at_k ready ∙ sym n) (d.refuses (omega arith)))
      go (a ∷ []) e p =
          let b : a ≡ 0x3c = cc in
          let n : d.next ≡ 0x2f = cc in
          halts u at (Filled g i) h (0x3c ∷ []) k (slash g i) [] (subst (λ (x : ℕ). Spans u at (x ∷ []) k) b p) refl
          (λ l. off (eqb (get_or u k 0) 0x2f) (repeats (letters i) g) (subst (λ (x : ℕ). eqb (get_or u k 0) x ≡ false) n (d.refuses l))) (λ _. refl)
      go (a ∷ b ∷ v) e p = let l = room _ (a ∷ b ∷ v) d.next d.rest e in absurd (omega arith)

  id_halts : (m k : ℕ) → Spans u at (codes "</") m → Departs u m (letters i) k → Halts u k cause.ClosingId
  id_halts m k p d =
      let spans = spans_join u at m k (codes "</") d.read p d.spans in
      halts u at (Filled g i) h (codes "</" ++ d.read) k (repeats (d.next ∷ d.rest) g) [] spans
      (ap (λ t. run (repeats t g ∷ []) d.read) d.text ∙ ap (run (repeats (d.read ++ (d.next ∷ d.rest)) g ∷ [])) (sym (append-nil d.read)) ∙ repeats_run d.read g (d.next ∷ d.rest) [])
      (λ l. off (eqb (get_or u k 0) d.next) (repeats d.rest g) (d.refuses l)) (λ _. refl)

  end_halts : (m k : ℕ) → Spans u at (codes "</" ++ letters i) m → Departs u m (codes ">") k → Halts u k cause.Elsewhere
  end_halts m k p d = go d.read d.text d.spans
    where
      go : (v : List ℕ) → codes ">" ≡ v ++ (d.next ∷ d.rest) → Spans u m v k → Halts u k cause.Elsewhere
      go [] e q =
          let n : d.next ≡ 0x3e = cc in
          halts u at (Filled g i) h (codes "</" ++ (letters i ++ [])) k (repeats [] g) [] (spans_join u at m k (codes "</" ++ letters i) [] p q) (repeats_run (letters i) g [] [])
          (λ l. off (eqb (get_or u k 0) 0x3e) (spells [] (Within g)) (subst (λ (x : ℕ). eqb (get_or u k 0) x ≡ false) n (d.refuses l))) (λ _. refl)
      go (a ∷ v) e q = let l = room _ (a ∷ v) d.next d.rest e in absurd (omega arith)

-- ---- a tag between others

second_step : (s n : State) (t : Tag) → Turn s t n → steps (get_or (spelling t) 1 0) (opens s) ≡ spells (drop 2 (spelling t)) n ∷ []
second_step _ _ _ opens_records = refl
second_step _ _ _ opens_record = refl
second_step _ _ _ opens_header = refl
second_step _ _ _ closes_header = refl
second_step _ _ _ opens_body = refl
second_step _ _ _ opens_visit = refl
second_step _ _ _ closes_visit = refl
second_step _ _ _ opens_order = refl
second_step _ _ _ closes_order = refl
second_step _ _ _ closes_body = refl
second_step _ _ _ closes_record = refl
second_step _ _ _ closes_records = refl

-- another second byte than that of the wanted tag
byte_off : (x : ℕ) (u t : Tag) → want.Structure u ≡ want.Structure t → eqb x (get_or (spelling t) 1 0) ≡ false → eqb x (get_or (spelling u) 1 0) ≡ false
byte_off x u t h e = let k : t ≡ u = cc in subst (λ (v : Tag). eqb x (get_or (spelling v) 1 0) ≡ false) k e

one_off : (x y : ℕ) (v : List ℕ) (m : State) → eqb x y ≡ false → steps x (spells (y ∷ v) m ∷ []) ≡ []
one_off x y v m e = off (eqb x y) (spells v m) e

two_off : (x y z : ℕ) (v w : List ℕ) (m n : State) → eqb x y ≡ false → eqb x z ≡ false → steps x (spells (y ∷ v) m ∷ spells (z ∷ w) n ∷ []) ≡ []
two_off x y z v w m n e f = λ i. when (e i) (spells v m) ++ (when (f i) (spells w n) ++ [])

second_dies : (x : ℕ) (s : State) (c : Bool) (t : Tag) → eqb x 0x2f ≡ c → wanted s c ≡ want.Structure t → eqb x (get_or (spelling t) 1 0) ≡ false → steps x (opens s) ≡ []
second_dies x Start c t b h e = one_off x _ _ _ (byte_off x _ t h e)
second_dies x Records true t b h e = absurd (true≢false (sym b ∙ byte_off x _ t h e))
second_dies x Records false t b h e = two_off x _ _ _ _ _ _ (byte_off x _ t h e) b
second_dies x Record c t b h e = one_off x _ _ _ (byte_off x _ t h e)
second_dies x (Within g) true t b h e = absurd (true≢false (sym b ∙ byte_off x _ t h e))
second_dies x (Within g) false t b h e = absurd (cc)
second_dies x Headed c t b h e = one_off x _ _ _ (byte_off x _ t h e)
second_dies x Body c t b h e = one_off x _ _ _ (byte_off x _ t h e)
second_dies x Orders true t b h e = absurd (true≢false (sym b ∙ byte_off x _ t h e))
second_dies x Orders false t b h e = two_off x _ _ _ _ _ _ (byte_off x _ t h e) b
second_dies x Bodied c t b h e = one_off x _ _ _ (byte_off x _ t h e)
second_dies x Done c t b h e = absurd (cc)

-- threads in a tag, with a byte to come
pub record Shut (ts : List Thread) : Type 0 where
  pub first : Thread
  pub others : List Thread
  pub is : ts ≡ first ∷ others
  pub elsewhere : kind (first ∷ others) ≡ cause.Elsewhere
  pub goes_on : ended (first ∷ others) ≡ false

pub opens_shut : (s : State) → (s ≡ Done → ⊥) → Shut (opens s)
opens_shut Start n = record { first = _; others = _; is = refl; elsewhere = refl; goes_on = refl }
opens_shut Records n = record { first = _; others = _; is = refl; elsewhere = refl; goes_on = refl }
opens_shut Record n = record { first = _; others = _; is = refl; elsewhere = refl; goes_on = refl }
opens_shut (Within g) n = record { first = _; others = _; is = refl; elsewhere = refl; goes_on = refl }
opens_shut Headed n = record { first = _; others = _; is = refl; elsewhere = refl; goes_on = refl }
opens_shut Body n = record { first = _; others = _; is = refl; elsewhere = refl; goes_on = refl }
opens_shut Orders n = record { first = _; others = _; is = refl; elsewhere = refl; goes_on = refl }
opens_shut Bodied n = record { first = _; others = _; is = refl; elsewhere = refl; goes_on = refl }
opens_shut Done n = absurd (n refl)

pub begins_bracket : (t : Tag) → get_or (spelling t) 0 0 ≡ 0x3c
begins_bracket (Open e) = refl
begins_bracket (Close e) = refl

module _ (u : List ℕ) (at : ℕ) (s : State) (h : Reached (take at u) (Between s)) (ready : Settles u at) (some : at < length u) where
  -- no < stands here
  bracket_dies : eqb (get_or u at 0) 0x3c ≡ false → Halts u at cause.Elsewhere
  bracket_dies e =
      halts u at (Between s) h [] at (spells [] s) [] (spans_none u at (omega arith)) refl
      (λ l. ap (λ ts. ts ++ []) (cond-false _ _ _ (ready some) ∙ cond-false _ _ _ e)) (λ e. absurd (omega arith))

  first_halts : (k : ℕ) → Spans u at [] k → Refuses u k (λ b. b == 0x3c) → Halts u k cause.Elsewhere
  first_halts k p r =
      let e : at ≡ k = let l = p.ends in omega arith in
      subst (λ (j : ℕ). Halts u j cause.Elsewhere) e (bracket_dies (subst (λ (j : ℕ). eqb (get_or u j 0) 0x3c ≡ false) (sym e) (r (omega arith))))

  closes_is : at + 1 < length u → eqb (get_or u (at + 1) 0) 0x2f ≡ closes (drop at u)
  closes_is l = ap (λ b. eqb b 0x2f) (sym (get_or-drop at u 1 0))

  -- behind the <
  second_halts : (k : ℕ) (b : ℕ) → (s ≡ Done → ⊥) → b ≡ 0x3c → Spans u at (b ∷ []) k → (k < length u → steps (get_or u k 0) (opens s) ≡ []) → Halts u k cause.Elsewhere
  second_halts k b n e p d =
      let t = opens_shut s n in
      subst (Halts u k) t.elsewhere
      (halts u at (Between s) h (0x3c ∷ []) k t.first t.others (subst (λ (x : ℕ). Spans u at (x ∷ []) k) e p) (append-nil (opens s) ∙ t.is)
      (λ l. ap (steps (get_or u k 0)) (sym t.is) ∙ d l) (λ _. t.goes_on))

  structure_halts : (t : Tag) (k : ℕ) → wanted s (closes (drop at u)) ≡ want.Structure t → Departs u at (spelling t) k → Halts u k cause.Elsewhere
  structure_halts t k w d = go d.read d.text d.spans
    where
      not_done : s ≡ Done → ⊥
      not_done e = let z = ap (λ x. wanted x (closes (drop at u))) e in cc

      go : (v : List ℕ) → spelling t ≡ v ++ (d.next ∷ d.rest) → Spans u at v k → Halts u k cause.Elsewhere
      go [] e p = first_halts k p (λ l. subst (λ (x : ℕ). eqb (get_or u k 0) x ≡ false) (sym (ap (λ (v : List ℕ). get_or v 0 0) e) ∙ begins_bracket t) (d.refuses l))
      go (a ∷ []) e p =
          let q : k ≡ at + 1 = let l = p.ends in omega arith in
          second_halts k a not_done (sym (ap (λ (v : List ℕ). get_or v 0 0) e) ∙ begins_bracket t) p
          (λ l. second_dies (get_or u k 0) s (closes (drop at u)) t (ap (λ (j : ℕ). eqb (get_or u j 0) 0x2f) q ∙ closes_is (omega arith)) w
          (subst (λ (x : ℕ). eqb (get_or u k 0) x ≡ false) (sym (ap (λ (v : List ℕ). get_or v 1 0) e)) (d.refuses l)))
      go (a ∷ b ∷ v) e p =
          let n = behind t in
          let a_is : a ≡ 0x3c = sym (ap (λ (v : List ℕ). get_or v 0 0) e) ∙ begins_bracket t in
          halts u at (Between s) h (0x3c ∷ b ∷ v) k (spells (d.next ∷ d.rest) n) [] (subst (λ (x : ℕ). Spans u at (x ∷ b ∷ v) k) a_is p)
          (ap (λ ts. run (steps b ts) v) (append-nil (opens s)) ∙ ap (λ x. run (steps x (opens s)) v) (sym (ap (λ (v : List ℕ). get_or v 1 0) e)) ∙ ap (λ ts. run ts v) (second_step s n t (wanted_turn s (closes (drop at u)) t w)) ∙ ap (λ (x : List ℕ). run (spells x n ∷ []) v) (ap (drop 2) e) ∙ ap (run (spells (v ++ (d.next ∷ d.rest)) n ∷ [])) (sym (append-nil v)) ∙ spells_front v (d.next ∷ d.rest) n [])
          (λ l. off (eqb (get_or u k 0) d.next) (spells d.rest n) (d.refuses l)) (λ _. refl)

-- ---- the opening tag of a field

module _ (u : List ℕ) (at : ℕ) (g : Segment) (h : Reached (take at u) (Between (Within g))) (ready : Settles u at) (some : at < length u) (k : ℕ) (no_slash : closes (drop at u) ≡ false) (d : ClassesBreak u at opening_classes k) where
  refused : (c : Class) → d.next ≡ c → k < length u → fits c (get_or u k 0) ≡ false
  refused c e l = subst (λ (x : Class). fits x (get_or u k 0) ≡ false) e (d.refuses l)

  fitting : (c e : Class) (x : ℕ) → c ≡ e → fits c x ≡ true → fits e x ≡ true
  fitting c e x q f = subst (λ (y : Class). fits y x ≡ true) q f

  open_halts : (x : ℕ) (v : List ℕ) (t : Thread) → fits (Byte 0x3c) x ≡ true → Spans u at (x ∷ v) k → run (opens (Within g)) v ≡ t ∷ [] → kind (t ∷ []) ≡ cause.Elsewhere → (k < length u → steps (get_or u k 0) (t ∷ []) ≡ []) → ended (t ∷ []) ≡ false → Halts u k cause.Elsewhere
  open_halts x v t f p r e dies o =
      subst (Halts u k) e (halts u at (Between (Within g)) h (0x3c ∷ v) k t [] (subst (λ (y : ℕ). Spans u at (y ∷ v) k) (eqb-true x 0x3c f) p) r dies (λ _. o))

  opening_halts : Halts u k cause.Elsewhere
  opening_halts = go d.before d.stand.bytes d.stand.each d.expected d.stand.spans
    where
      go : (cs : List Class) (v : List ℕ) → Each fits cs v → opening_classes ≡ cs ++ (d.next ∷ d.rest) → Spans u at v k → Halts u k cause.Elsewhere
      go [] [] a e p = first_halts u at (Within g) h ready some k p (refused (Byte 0x3c) (cc))
      go [] (x ∷ v) a e p = absurd a
      go (c ∷ cs) [] a e p = absurd a
      go (c ∷ []) (x ∷ []) a e p =
          let q : k ≡ at + 1 = let l = p.ends in omega arith in
          second_halts u at (Within g) h ready some k x (λ z. cc) (eqb-true x 0x3c (fitting c (Byte 0x3c) x (cc) a.0)) p
          (λ l.
          let slash : eqb (get_or u k 0) 0x2f ≡ false = ap (λ (j : ℕ). eqb (get_or u j 0) 0x2f) q ∙ closes_is u at (Within g) h ready some (omega arith) ∙ no_slash in
          let letter = refused Capital (cc) l in
          λ i. when (slash i) (spells (name (element g) ++ codes ">") (behind (Close (element g)))) ++ (when (letter i) (tens g (get_or u k 0)) ++ []))
      go (c ∷ []) (x ∷ y ∷ v) a e p = absurd a.1
      go (c ∷ c2 ∷ cs) (x ∷ []) a e p = absurd a.1
      go (c ∷ c2 ∷ []) (x ∷ y ∷ []) a e p =
          open_halts x (y ∷ []) (tens g y) (fitting c (Byte 0x3c) x (cc) a.0) p (letter_on g y (fitting c2 Capital y (cc) a.1.0)) refl
          (λ l. off (is_digit (get_or u k 0)) (ones g y (get_or u k 0)) (refused Digit (cc) l)) refl
      go (c ∷ c2 ∷ []) (x ∷ y ∷ z ∷ v) a e p = absurd a.1.1
      go (c ∷ c2 ∷ c3 ∷ cs) (x ∷ y ∷ []) a e p = absurd a.1.1
      go (c ∷ c2 ∷ c3 ∷ []) (x ∷ y ∷ z ∷ []) a e p =
          open_halts x (y ∷ z ∷ []) (ones g y z) (fitting c (Byte 0x3c) x (cc) a.0) p
          (ap (steps z) (letter_on g y (fitting c2 Capital y (cc) a.1.0)) ∙ on (ones g y z) (is_digit z) (fitting c3 Digit z (cc) a.1.1.0)) refl
          (λ l. off (is_digit (get_or u k 0)) (shut g (record { letter = y; tens = z; ones = get_or u k 0 })) (refused Digit (cc) l)) refl
      go (c ∷ c2 ∷ c3 ∷ []) (x ∷ y ∷ z ∷ z2 ∷ v) a e p = absurd a.1.1.1
      go (c ∷ c2 ∷ c3 ∷ c4 ∷ cs) (x ∷ y ∷ z ∷ []) a e p = absurd a.1.1.1
      go (c ∷ c2 ∷ c3 ∷ c4 ∷ []) (x ∷ y ∷ z ∷ z2 ∷ []) a e p =
          let i : FieldId = record { letter = y; tens = z; ones = z2 } in
          open_halts x (y ∷ z ∷ z2 ∷ []) (shut g i) (fitting c (Byte 0x3c) x (cc) a.0) p
          (ap (λ ts. steps z2 (steps z ts)) (letter_on g y (fitting c2 Capital y (cc) a.1.0)) ∙ ap (steps z2) (on (ones g y z) (is_digit z) (fitting c3 Digit z (cc) a.1.1.0)) ∙ on (shut g i) (is_digit z2) (fitting c4 Digit z2 (cc) a.1.1.1.0)) refl
          (λ l. off (eqb (get_or u k 0) 0x3e) (value g i) (refused (Byte 0x3e) (cc) l)) refl
      go (c ∷ c2 ∷ c3 ∷ c4 ∷ []) (x ∷ y ∷ z ∷ z2 ∷ z3 ∷ v) a e p = absurd a.1.1.1.1
      go (c ∷ c2 ∷ c3 ∷ c4 ∷ c5 ∷ cs) (x ∷ y ∷ z ∷ z2 ∷ []) a e p = absurd a.1.1.1.1
      go (c ∷ c2 ∷ c3 ∷ c4 ∷ c5 ∷ cs) (x ∷ y ∷ z ∷ z2 ∷ z3 ∷ v) a e p = let l = ap length e in let m = length-append cs (d.next ∷ d.rest) in absurd (omega arith)

-- ---- any token

not_slash : (g f : Segment) (c : Bool) → wanted (Within g) c ≡ want.Field f → c ≡ false
not_slash g f true h = absurd (cc)
not_slash g f false h = refl

all_halts : (u : List ℕ) (at : ℕ) (s : State) → s ≡ Done → Reached (take at u) (Between s) → Settles u at → at < length u → Halts u at cause.Elsewhere
all_halts u at s e h r l =
    let g = subst (λ (x : State). Reached (take at u) (Between x)) e h in
    halts u at (Between Done) g [] at (spells [] Done) [] (spans_none u at (omega arith)) refl
    (λ l. ap (λ ts. ts ++ []) (cond-false _ _ _ (r l) ∙ cond-same (eqb (get_or u at 0) 0x3c))) (λ e. absurd (omega arith))
  where
    cond-same : (b : Bool) → cond {A = List Thread} b [] [] ≡ []
    cond-same true = refl
    cond-same false = refl

pub fails_halts : (u : List ℕ) (at : ℕ) (s : Station) (c : Cause) (k : ℕ) → StandsAt u at s → at < length u → Fails u at s c k → Halts u k c
fails_halts u at _ _ k h l (in_structure {s} {t} w d) = structure_halts u at s h.reached h.ready l t k w d
fails_halts u at _ _ k h l (in_opening {s} {g} w d) =
    let e = wanted_field s (closes (drop at u)) g w in
    opening_halts u at g (subst (λ (x : State). Reached (take at u) (Between x)) e h.reached) h.ready l k (not_slash g g (closes (drop at u)) (subst (λ (x : State). wanted x (closes (drop at u)) ≡ want.Field g) e w)) d
fails_halts u at _ _ k h l (behind_all {s} w) = all_halts u at s (wanted_nothing s (closes (drop at u)) w) h.reached h.ready l
fails_halts u at _ _ k h l (in_value {g} {i} b) = value_halts u at g i h.reached k b
fails_halts u at _ _ k h l (at_slash {g} {i} d) = slash_halts u at g i h.reached h.ready l k d
fails_halts u at _ _ k h l (in_id {g} {i} {m} p d) = id_halts u at g i h.reached h.ready l m k p d
fails_halts u at _ _ k h l (at_end {g} {i} {m} p d) = end_halts u at g i h.reached h.ready l m k p d
