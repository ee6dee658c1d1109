-- What a lawful rest begins with. Assumes nothing.
use Rattle.std.proofs.Common.{◌≡◌, ℕ, suc, ◌+◌, ◌≤◌, true, List, [], ◌∷◌, ◌++◌, length, get_or, take, drop, sym, refl, ap, ◌∙◌, subst, arith, add-zero, length-append}
use Rattle.std.proofs.lemmas.Bool.{cond-true, cond-false}
use Rattle.std.proofs.lemmas.Bool.Decides.{nat_tests}
use Rattle.std.proofs.Math.Seq.{take-append_seam, drop-append-add}
use Rattle.grammar.specs.Bytes.{white, capital}
use Rattle.grammar.specs.Grammar.{Value, empty, one, pair, opening, closing, spelling, Turn, opens_records, opens_record, opens_header, closes_header, opens_body, opens_visit, closes_visit, opens_order, closes_order, closes_body, closes_record, closes_records, Rest, here, skips, turns, holds}
use Rattle.grammar.specs.Items.{Item, structure, field, items}
use Rattle.grammar.specs.Tags.{behind, wanted}
use Rattle.grammar.specs.declared.states.Segment.{Segment}
use Rattle.grammar.specs.declared.states.State.{State}
use Rattle.grammar.specs.declared.states.State.TheVariants.{Within}
use Rattle.grammar.specs.declared.states.Tag.{Tag}
use Rattle.grammar.specs.declared.states.Tag.TheVariants.{Open, Close}
use Rattle.grammar.specs.declared.states.FieldId.{FieldId}
use Rattle.grammar.specs.declared.states.Wanted.{Wanted}
use Rattle.grammar.specs.declared.states.Wanted.TheVariants.{Structure, Field, Nothing}
use Rattle.grammar.proofs.Walks.{capital_alone}
use Rattle.grammar.specs.Ahead.{white_len, closes}
use Rattle.cursor.specs.Scan.{value_len}

-- the bytes w, of which the first stands at the place at, begin with the item found, which is len bytes long, and go on in the state n: so their items are
pub record First (at : ℕ) (is : List Item) (w : List ℕ) (found : Item) (len : ℕ) (n : State) : Type 0 where
  pub within : len ≤ length w
  pub rest : Rest n (drop len w)
  pub told : is ≡ found ∷ items (at + len) rest

-- the bytes w, in the state s, begin with what is wanted there
abbrev pub Begins : ℕ → List Item → State → List ℕ → Wanted → Type 0
Begins at is s w (Structure t) = First at is w (structure t at) (length (spelling t)) (behind t)
Begins at is s w (Field g) =
    let v = take (value_len (drop 5 w)) (drop 5 w) in
    First at is w (field (record { letter = get_or w 1 0; tens = get_or w 2 0; ones = get_or w 3 0 }) at v) (5 + value_len (drop 5 w) + 6) s
Begins at is s w Nothing = is ≡ []

abbrev pub BeginsAsWanted : ℕ → List Item → State → List ℕ → Type 0
BeginsAsWanted at is s w = Begins at is s w (wanted s (closes w))

-- a tag of the structure
turned : {s n : State} {t : Tag} (at : ℕ) {w : List ℕ} → Turn s t n → (p : Rest n w) → BeginsAsWanted at (structure t at ∷ items (at + length (spelling t)) p) s (spelling t ++ w)
turned at opens_records p = record { within = omega arith; rest = p; told = refl }
turned at opens_record p = record { within = omega arith; rest = p; told = refl }
turned at opens_header p = record { within = omega arith; rest = p; told = refl }
turned at closes_header p = record { within = omega arith; rest = p; told = refl }
turned at opens_body p = record { within = omega arith; rest = p; told = refl }
turned at opens_visit p = record { within = omega arith; rest = p; told = refl }
turned at closes_visit p = record { within = omega arith; rest = p; told = refl }
turned at opens_order p = record { within = omega arith; rest = p; told = refl }
turned at closes_order p = record { within = omega arith; rest = p; told = refl }
turned at closes_body p = record { within = omega arith; rest = p; told = refl }
turned at closes_record p = record { within = omega arith; rest = p; told = refl }
turned at closes_records p = record { within = omega arith; rest = p; told = refl }

-- a value reaches to the first <
value_clear : {v : List ℕ} (r : List ℕ) → Value v → value_len (v ++ (0x3c ∷ r)) ≡ length v
value_clear r empty = refl
value_clear r (one {b} {v} h k) = let e = value_clear r k in grind (arith, nat_tests)
value_clear r (pair {b} {c} {v} h g k) = let e = value_clear r k in grind (arith, nat_tests)

-- a first item from the rest behind it
begun_with : (at : ℕ) (is : List Item) (w : List ℕ) (found : Item) (len : ℕ) (n : State) (r : List ℕ) → len ≤ length w → drop len w ≡ r → (q : Rest n r) → is ≡ found ∷ items (at + len) q → First at is w found len n
begun_with at is w found len n r l e q k =
    let m = subst (λ (u : List ℕ). (p : Rest n u) × (is ≡ found ∷ items (at + len) p)) (sym e) (q, k) in
    record { within = l; rest = m.0; told = m.1 }

-- a field
held : (at : ℕ) (g : Segment) (i : FieldId) (v w : List ℕ) → capital i.letter ≡ true → Value v → (p : Rest (Within g) w) → BeginsAsWanted at (field i at v ∷ items (at + 5 + length v + 6) p) (Within g) (opening i ++ (v ++ (closing i ++ w)))
held at g i v w d h p =
    subst (Begins at is (Within g) whole) (sym (cond-false _ _ _ (capital_alone i.letter d)))
    (subst (λ (n : ℕ). First at is whole (field i at (take n behind)) (5 + n + 6) (Within g)) (sym (value_clear _ h))
    (begun_with at is whole (field i at (take (length v) behind)) (5 + length v + 6) (Within g) w within over p told))
  where
    behind : List ℕ
    behind = v ++ (closing i ++ w)

    whole : List ℕ
    whole = opening i ++ behind

    is : List Item
    is = field i at v ∷ items (at + 5 + length v + 6) p

    within : 5 + length v + 6 ≤ length whole
    within = let e = length-append v (closing i ++ w) in omega arith

    over : drop (5 + length v + 6) whole ≡ w
    over = let e : 5 + length v + 6 ≡ suc (suc (suc (suc (suc (length v + 6))))) = omega arith in ap (λ k. drop k whole) e ∙ drop-append-add v (closing i ++ w) 6

    told : is ≡ field i at (take (length v) behind) ∷ items (at + (5 + length v + 6)) p
    told = let e : at + 5 + length v + 6 ≡ at + (5 + length v + 6) = omega arith in ap (λ k. field i at v ∷ items k p) e ∙ ap (λ u. field i at u ∷ items (at + (5 + length v + 6)) p) (sym (take-append_seam v (closing i ++ w)))

unmoved : (at : ℕ) (is : List Item) (s : State) (w : List ℕ) → white_len w ≡ 0 → BeginsAsWanted at is s w → BeginsAsWanted (at + white_len w) is s (drop (white_len w) w)
unmoved at is s w e m = subst (λ k. BeginsAsWanted (at + k) is s (drop k w)) (sym e) (rw add-zero m)

tag_black : (t : Tag) (w : List ℕ) → white_len (spelling t ++ w) ≡ 0
tag_black (Open e) w = refl
tag_black (Close e) w = refl

-- whatever path it is, behind its white space it begins as the state wants
pub begins : {s : State} {w : List ℕ} (at : ℕ) (p : Rest s w) → BeginsAsWanted (at + white_len w) (items at p) s (drop (white_len w) w)
begins at here = refl
begins at (skips {s} {b = b} {w = w} h p) =
    let e : at + 1 + white_len w ≡ at + (1 + white_len w) = omega arith in
    let f : suc (white_len w) ≡ 1 + white_len w = omega arith in
    subst (λ k. BeginsAsWanted (at + k) (items (at + 1) p) s (drop k (b ∷ w))) (f ∙ sym (cond-true (white b) _ _ h))
    (subst (λ k. BeginsAsWanted k (items (at + 1) p) s (drop (white_len w) w)) (e ∙ ap (λ k. at + k) (sym f)) (begins (at + 1) p))
begins at (turns {s} {t = t} {w = w} k p) = unmoved at _ s (spelling t ++ w) (tag_black t w) (turned at k p)
begins at (holds {g} {i = i} {v} {w} d h p) = unmoved at _ (Within g) (opening i ++ (v ++ (closing i ++ w))) refl (held at g i v w d.letter h p)
