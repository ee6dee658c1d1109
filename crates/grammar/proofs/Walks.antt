-- A path is a run. Assumes nothing.
use Rattle.std.proofs.Common.{append-nil, ◌≡◌, ℕ, Bool, true, false, eqb, List, [], ◌∷◌, ◌++◌, codes, sym, refl, ap, ◌∙◌, arith}
use Rattle.std.proofs.lemmas.Bool.{cond-true, cond-false, eq-eqb}
use Rattle.std.proofs.lemmas.Bool.Decides.{nat_tests}
use Rattle.calendar.specs.Digits.{is_digit}
use Rattle.grammar.specs.Bytes.{white, plain, lead, trail, capital}
use Rattle.grammar.specs.Grammar.{declaration, Value, empty, one, pair, Id, letters, opening, closing, name, spelling, Turn, opens_records, opens_record, opens_header, closes_header, opens_body, opens_visit, closes_visit, opens_order, closes_order, closes_body, closes_record, closes_records, Path, here, skips, turns, holds, Leads}
use Rattle.grammar.specs.Tags.{element, behind}
use Rattle.grammar.specs.Threads.{Thread, spells, tens, ones, shut, value, trails, repeats, opens, when, steps, run, start}
use Rattle.grammar.specs.declared.states.Segment.{Segment}
use Rattle.grammar.specs.declared.states.State.{State}
use Rattle.grammar.specs.declared.states.State.TheVariants.{Start, Within}
use Rattle.grammar.specs.declared.states.Tag.{Tag}
use Rattle.grammar.specs.declared.states.Tag.TheVariants.{Close}
use Rattle.grammar.specs.declared.states.FieldId.{FieldId}
use Rattle.grammar.proofs.Inverts.{plain_alone, lead_alone}
use Rattle.grammar.proofs.Runs.{Stands}

pub on : (t : Thread) (b : Bool) → b ≡ true → when b t ++ [] ≡ t ∷ []
on t b e = ap (λ c. when c t ++ []) e

pub capital_alone : (a : ℕ) → capital a ≡ true → eqb a 0x2f ≡ false
capital_alone a h = grind (arith, nat_tests)

pub letter_on : (g : Segment) (a : ℕ) → capital a ≡ true → steps a (opens (Within g)) ≡ tens g a ∷ []
letter_on g a h = ap (λ c. when c (spells (name (element g) ++ codes ">") (behind (Close (element g)))) ++ (when (capital a) (tens g a) ++ [])) (capital_alone a h) ∙ on (tens g a) (capital a) h

pub plain_on : (g : Segment) (i : FieldId) (x : ℕ) → plain x ≡ true → steps x (value g i ∷ []) ≡ value g i ∷ []
plain_on g i x h = ap (λ ts. ts ++ []) (cond-false _ _ _ (plain_alone x h) ∙ cond-true _ _ _ h)

pub lead_on : (g : Segment) (i : FieldId) (x : ℕ) → lead x ≡ true → steps x (value g i ∷ []) ≡ trails g i ∷ []
lead_on g i x h = ap (λ ts. ts ++ []) (cond-false _ _ _ (lead_alone x h).0 ∙ cond-false _ _ _ (lead_alone x h).1 ∙ cond-true _ _ _ h)

pub spell_on : (x : ℕ) (t : List ℕ) (s : State) → steps x (spells (x ∷ t) s ∷ []) ≡ spells t s ∷ []
spell_on x t s = on (spells t s) (eqb x x) (eq-eqb x x refl)

pub repeat_on : (x : ℕ) (t : List ℕ) (g : Segment) → steps x (repeats (x ∷ t) g ∷ []) ≡ repeats t g ∷ []
repeat_on x t g = on (repeats t g) (eqb x x) (eq-eqb x x refl)

pub then : (w : List ℕ) {ts us : List Thread} → ts ≡ us → run ts w ≡ run us w
then w e = ap (λ vs. run vs w) e

pub spells_front : (t r : List ℕ) (s : State) (w : List ℕ) → run (spells (t ++ r) s ∷ []) (t ++ w) ≡ run (spells r s ∷ []) w
spells_front [] r s w = refl
spells_front (x ∷ t) r s w = then (t ++ w) (spell_on x (t ++ r) s) ∙ spells_front t r s w

pub spells_run : (t : List ℕ) (s : State) (w : List ℕ) → run (spells t s ∷ []) (t ++ w) ≡ run (spells [] s ∷ []) w
spells_run t s w = ap (λ v. run (spells v s ∷ []) (t ++ w)) (sym (append-nil t)) ∙ spells_front t [] s w

pub opening_run : (g : Segment) (i : FieldId) → Id i → (w : List ℕ) → run (spells [] (Within g) ∷ []) (opening i ++ w) ≡ run (value g i ∷ []) w
opening_run g i d w =
    then (i.tens ∷ i.ones ∷ 0x3e ∷ w) (letter_on g i.letter d.letter)
    ∙ then (i.ones ∷ 0x3e ∷ w) (on (ones g i.letter i.tens) (is_digit i.tens) d.tens)
    ∙ then (0x3e ∷ w) (on (shut g i) (is_digit i.ones) d.ones)

pub value_run : (g : Segment) (i : FieldId) {v : List ℕ} (w : List ℕ) → Value v → run (value g i ∷ []) (v ++ w) ≡ run (value g i ∷ []) w
value_run g i w empty = refl
value_run g i w (one {b = x} {v} h r) = then (v ++ w) (plain_on g i x h) ∙ value_run g i w r
value_run g i w (pair {b = x} {c = y} {v} h k r) =
    then (y ∷ (v ++ w)) (lead_on g i x h) ∙ then (v ++ w) (on (value g i) (trail y) k) ∙ value_run g i w r

pub repeats_run : (t : List ℕ) (g : Segment) (r w : List ℕ) → run (repeats (t ++ r) g ∷ []) (t ++ w) ≡ run (repeats r g ∷ []) w
repeats_run [] g r w = refl
repeats_run (x ∷ t) g r w = then (t ++ w) (repeat_on x (t ++ r) g) ∙ repeats_run t g r w

pub closing_run : (g : Segment) (i : FieldId) (w : List ℕ) → run (value g i ∷ []) (closing i ++ w) ≡ run (spells [] (Within g) ∷ []) w
closing_run g i w = repeats_run (letters i) g [] (0x3e ∷ w)

turn_run : {s n : State} {t : Tag} (w : List ℕ) → Turn s t n → run (spells [] s ∷ []) (spelling t ++ w) ≡ run (spells [] n ∷ []) w
turn_run w opens_records = refl
turn_run w opens_record = refl
turn_run w opens_header = refl
turn_run w closes_header = refl
turn_run w opens_body = refl
turn_run w opens_visit = refl
turn_run w closes_visit = refl
turn_run w opens_order = refl
turn_run w closes_order = refl
turn_run w closes_body = refl
turn_run w closes_record = refl
turn_run w closes_records = refl

pub path_run : {s n : State} {u : List ℕ} → Path s u n → run (spells [] s ∷ []) u ≡ spells [] n ∷ []
path_run here = refl
path_run (skips {s} {b = x} {w} h p) = then w (ap (λ ts. ts ++ []) (cond-true (white x) (spells [] s ∷ []) _ h)) ∙ path_run p
path_run (turns {w = w} t p) = turn_run w t ∙ path_run p
path_run (holds {g = g} {i = i} {v} {w} d h p) = opening_run g i d (v ++ (closing i ++ w)) ∙ value_run g i (closing i ++ w) h ∙ closing_run g i w ∙ path_run p

-- behind bytes that lead to a state, only its thread goes on
pub leads_run : (u : List ℕ) (s : State) → Leads u s → Stands u (spells [] s ∷ [])
leads_run u s h = ap (run start) h.declared ∙ spells_run declaration Start h.rest ∙ path_run h.path
