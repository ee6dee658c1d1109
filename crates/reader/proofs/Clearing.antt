-- In a tag or a value only the first byte is a <. Assumes nothing.
use Rattle.std.proofs.Common.{◌≡◌, ◌≢◌, ℕ, zero, suc, ◌-◌, ◌<◌, Bool, true, not, ◌&&◌, ◌==◌, List, [], ◌∷◌, ◌++◌, length, get_or, drop, codes, refl, sym, ap, ◌∙◌, arith}
use Rattle.std.specs.List.{list_all}
use Rattle.std.proofs.lemmas.Bool.{true≢false, and_parts, eq-eqb}
use Rattle.std.proofs.lemmas.Bool.Decides.{nat_tests}
use Rattle.std.proofs.lemmas.List.Folds.{list_all-append}
use Rattle.grammar.specs.Bytes.{plain, lead, trail, capital}
use Rattle.calendar.specs.Digits.{is_digit}
use Rattle.grammar.specs.Grammar.{Value, empty, one, pair, Id, letters, spelling}
use Rattle.grammar.specs.declared.states.Element.TheVariants.{Recs, Rec, Msh, Mb, Mb1, Mb2}
use Rattle.grammar.specs.declared.states.Tag.{Tag}
use Rattle.grammar.specs.declared.states.Tag.TheVariants.{Open, Close}
use Rattle.grammar.specs.declared.states.FieldId.{FieldId}
use Rattle.reader.specs.Spans.{Spans, Halved, half}
use Rattle.reader.specs.Scans.{fits, Each}
use Rattle.reader.specs.Readings.{opening_classes, Fails, in_structure, in_opening, behind_all, in_value, at_slash, in_id, at_end}
use Rattle.reader.specs.Moves.{StandsAt}
use Rattle.reader.specs.declared.classes.Class.{Class}
use Rattle.reader.specs.declared.classes.Class.TheVariants.{Byte, Capital, Digit}
use Rattle.reader.specs.declared.stations.Station.{Station}
use Rattle.reader.specs.declared.faults.Cause.{Cause}
use Rattle.reader.proofs.Spanning.{spans_join, span_byte}

abbrev other : ℕ → Bool
other b = not (b == 0x3c)

abbrev clear : List ℕ → Bool
clear v = list_all other v

clear_at : (v : List ℕ) (n : ℕ) → clear v ≡ true → n < length v → get_or v n 0 ≢ 0x3c
clear_at [] n h l = absurd (omega arith)
clear_at (b ∷ v) zero h l = λ e. true≢false (sym (and_parts (other b) (clear v) h).0 ∙ ap not (eq-eqb b 0x3c e))
clear_at (b ∷ v) (suc n) h l = clear_at v n (and_parts (other b) (clear v) h).1 (omega arith)

both_clear : (v w : List ℕ) → clear v ≡ true → clear w ≡ true → clear (v ++ w) ≡ true
both_clear v w h k = list_all-append other v w ∙ (λ i. h i && k i)

front_clear : (v w : List ℕ) → clear (v ++ w) ≡ true → clear v ≡ true
front_clear v w h = (and_parts (clear v) (clear w) (sym (list_all-append other v w) ∙ h)).0

plain_clear : (b : ℕ) → plain b ≡ true → other b ≡ true
plain_clear b h = grind (arith, nat_tests)

lead_clear : (b : ℕ) → lead b ≡ true → other b ≡ true
lead_clear b h = grind (arith, nat_tests)

trail_clear : (b : ℕ) → trail b ≡ true → other b ≡ true
trail_clear b h = grind (arith, nat_tests)

capital_clear : (b : ℕ) → capital b ≡ true → other b ≡ true
capital_clear b h = grind (arith, nat_tests)

digit_clear : (b : ℕ) → is_digit b ≡ true → other b ≡ true
digit_clear b h = grind (arith, nat_tests)

value_clear : (v : List ℕ) → Value v → clear v ≡ true
value_clear _ empty = refl
value_clear _ (one {b} {v} h r) = λ i. plain_clear b h i && value_clear v r i
value_clear _ (pair {b} {c} {v} h k r) = λ i. lead_clear b h i && (trail_clear c k i && value_clear v r i)

half_clear : (q : List ℕ) → Halved q → clear q ≡ true
half_clear [] h = refl
half_clear (x ∷ []) (half l) = λ i. lead_clear x l i && true
half_clear (x ∷ y ∷ q) h = elim h [ ]

letters_clear : (i : FieldId) → Id i → clear (letters i) ≡ true
letters_clear i d = λ j. capital_clear i.letter d.letter j && (digit_clear i.tens d.tens j && (digit_clear i.ones d.ones j && true))

spelling_clear : (t : Tag) → clear (drop 1 (spelling t)) ≡ true
spelling_clear (Open Recs) = refl
spelling_clear (Open Rec) = refl
spelling_clear (Open Msh) = refl
spelling_clear (Open Mb) = refl
spelling_clear (Open Mb1) = refl
spelling_clear (Open Mb2) = refl
spelling_clear (Close Recs) = refl
spelling_clear (Close Rec) = refl
spelling_clear (Close Msh) = refl
spelling_clear (Close Mb) = refl
spelling_clear (Close Mb1) = refl
spelling_clear (Close Mb2) = refl

rest_clear : (v : List ℕ) → clear v ≡ true → clear (drop 1 v) ≡ true
rest_clear [] h = refl
rest_clear (b ∷ v) h = (and_parts (other b) (clear v) h).1

prefix_clear : (t v : List ℕ) (x : ℕ) (r : List ℕ) → t ≡ v ++ (x ∷ r) → clear (drop 1 t) ≡ true → clear (drop 1 v) ≡ true
prefix_clear t [] x r e h = refl
prefix_clear t (b ∷ v) x r e h = front_clear v (x ∷ r) (sym (ap (λ (w : List ℕ). clear (drop 1 w)) e) ∙ h)

abbrev class_other : Class → Bool
class_other (Byte x) = other x
class_other Capital = true
class_other Digit = true

fits_clear : (c : Class) (b : ℕ) → class_other c ≡ true → fits c b ≡ true → other b ≡ true
fits_clear (Byte x) b h f = grind (arith, nat_tests)
fits_clear Capital b h f = capital_clear b f
fits_clear Digit b h f = digit_clear b f

are_clear : (cs : List Class) (v : List ℕ) → Each fits cs v → list_all class_other cs ≡ true → clear v ≡ true
are_clear [] [] a h = refl
are_clear [] (b ∷ v) a h = absurd a
are_clear (c ∷ cs) [] a h = absurd a
are_clear (c ∷ cs) (b ∷ v) a h =
    let p = and_parts (class_other c) (list_all class_other cs) h in
    λ i. fits_clear c b p.0 a.0 i && are_clear cs v a.1 p.1 i

opening_clear : (cs : List Class) (v : List ℕ) (n : Class) (r : List Class) → Each fits cs v → opening_classes ≡ cs ++ (n ∷ r) → clear (drop 1 v) ≡ true
opening_clear [] [] n r a e = refl
opening_clear [] (b ∷ v) n r a e = absurd a
opening_clear (c ∷ cs) [] n r a e = absurd a
opening_clear (c ∷ cs) (b ∷ v) n r a e =
    are_clear cs v a.1 (and_parts (list_all class_other cs) (list_all class_other (n ∷ r)) (sym (list_all-append class_other cs (n ∷ r)) ∙ sym (ap (λ (x : List Class). list_all class_other (drop 1 x)) e))).0

tail_clear : (u : List ℕ) (at k m : ℕ) (v : List ℕ) → at < m → m < k → Spans u at v k → clear (drop 1 v) ≡ true → get_or u m 0 ≢ 0x3c
tail_clear u at k m [] l n p h = λ e. let z = p.ends in omega arith
tail_clear u at k m (b ∷ v) l n p h = λ e.
    let z = p.ends in
    let q : m - at ≡ suc (m - at - 1) = omega arith in
    clear_at v (m - at - 1) h (omega arith) (ap (λ (i : ℕ). get_or (b ∷ v) i 0) (sym q) ∙ sym (span_byte u at k m (b ∷ v) (omega arith) n p) ∙ e)

pub fails_clear : (u : List ℕ) (at m : ℕ) (s : Station) (c : Cause) (k : ℕ) → StandsAt u at s → Fails u at s c k → at < m → m < k → get_or u m 0 ≢ 0x3c
fails_clear u at m _ _ k h (in_structure {s} {t} w d) l n = tail_clear u at k m d.read l n d.spans (prefix_clear (spelling t) d.read d.next d.rest d.text (spelling_clear t))
fails_clear u at m _ _ k h (in_opening w d) l n = tail_clear u at k m d.stand.bytes l n d.stand.spans (opening_clear d.before d.stand.bytes d.next d.rest d.stand.each d.expected)
fails_clear u at m _ _ k h (behind_all w) l n = absurd (omega arith)
fails_clear u at m _ _ k h (in_value {g} {i} b) l n =
    tail_clear u at k m (b.bytes ++ b.half) l n b.spans (rest_clear (b.bytes ++ b.half) (both_clear b.bytes b.half (value_clear b.bytes b.value) (half_clear b.half b.halved)))
fails_clear u at m _ _ k h (at_slash d) l n = tail_clear u at k m d.read l n d.spans (prefix_clear (codes "</") d.read d.next d.rest d.text refl)
fails_clear u at m _ _ k h (in_id {g} {i} {m = j} p d) l n =
    tail_clear u at k m (codes "</" ++ d.read) l n (spans_join u at j k (codes "</") d.read p d.spans)
    (front_clear d.read (d.next ∷ d.rest) (sym (ap clear d.text) ∙ letters_clear i h.reached.1.id))
fails_clear u at m _ _ k h (at_end {g} {i} {m = j} p d) l n =
    tail_clear u at k m ((codes "</" ++ letters i) ++ d.read) l n (spans_join u at j k (codes "</" ++ letters i) d.read p d.spans)
    (both_clear (letters i) d.read (letters_clear i h.reached.1.id) (front_clear d.read (d.next ∷ d.rest) (sym (ap clear d.text))))
