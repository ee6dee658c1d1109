-- The first word and those behind it. Assumes nothing.
use Rattle.std.proofs.Common.{◌≡◌, ℕ, ◌+◌, ◌-◌, ◌<◌, Bool, true, false, not, cond, Some, None, List, [], ◌∷◌, length, take, drop, nat_lt, refl, ap, arith}
use Rattle.std.proofs.lemmas.Bool.Decides.{nat_tests}
use Rattle.std.proofs.lemmas.List.{take_all, length-drop}
use Rattle.std.proofs.lemmas.List.Splits.{slice_split_first, length-slice_split}
use Rattle.std.proofs.lemmas.List.Sums.{prefix_len-le-length}
use Rattle.std.specs.List.{onto_first, position, position_or_len}
use Rattle.commands.specs.Words.{is_blank, words_of}

placed : (b : Bool) (k i : ℕ) → cond b (Some k) None ≡ Some i → (b ≡ true) × (k ≡ i)
placed true k i h = (refl, cc)
placed false k i h = absurd (cc)

none_placed : (b : Bool) (k : ℕ) → cond b (Some k) None ≡ None → b ≡ false
none_placed true k h = absurd (cc)
none_placed false k h = refl

-- the first word ends before the first blank
pub cut : (line : List ℕ) (i : ℕ) → position is_blank line ≡ Some i
    → words_of line ≡ take i line ∷ words_of (take (length line - (i + 1)) (drop (i + 1) line))
cut line i h =
    let k = position_or_len is_blank line in
    let p = placed (nat_lt k (length line)) k i h in
    let below : k < length line = grind (arith, nat_tests, p.0) in
    let all : take (length line - (i + 1)) (drop (i + 1) line) ≡ drop (i + 1) line = take_all _ _ (omega (arith, length-drop (i + 1) line)) in
    rw all (rw p.1 at (slice_split_first is_blank line 0 below))

uncut_head : (b : Bool) (x : ℕ) (xs : List ℕ) (ws : List (List ℕ)) (n : ℕ) → (n ≡ length xs → ws ≡ xs ∷ [])
    → cond (not b) (1 + n) 0 ≡ length (x ∷ xs) → cond b ([] ∷ ws) (onto_first x ws) ≡ (x ∷ xs) ∷ []
uncut_head true x xs ws n more h = absurd (omega arith)
uncut_head false x xs ws n more h = ap (onto_first x) (more (omega arith))

uncut_from : (line : List ℕ) → position_or_len is_blank line ≡ length line → words_of line ≡ line ∷ []
uncut_from [] h = refl
uncut_from (x ∷ xs) h = uncut_head (is_blank x) x xs (words_of xs) (position_or_len is_blank xs) (uncut_from xs) h

-- without a blank it is the only one
pub uncut : (line : List ℕ) → position is_blank line ≡ None → words_of line ≡ line ∷ []
uncut line h =
    let k = position_or_len is_blank line in
    let none = none_placed (nat_lt k (length line)) k h in
    uncut_from line (grind (arith, nat_tests, none, prefix_len-le-length (λ b. not (is_blank b)) line))

-- there is one
pub some_word : (line : List ℕ) → words_of line ≡ [] → ⊥
some_word line h = omega (arith, length-slice_split is_blank line, ap length h)
