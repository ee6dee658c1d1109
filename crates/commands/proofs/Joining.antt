-- Words that a line is made of are the words that stand in it. Assumes nothing.
use Rattle.std.proofs.Common.{◌≡◌, ℕ, Bool, true, false, not, ◌&&◌, ◌||◌, cond, List, [], ◌∷◌, ◌++◌, Result, Ok, Err, refl, sym, ap, ◌∙◌}
use Rattle.std.proofs.lemmas.List.Splits.{join_with_byte-slice_split}
use Rattle.std.specs.List.{list_all, list_any, onto_first}
use Rattle.commands.specs.Words.{is_blank, is_gap, words_of, words_in}
use Rattle.commands.specs.Lines.{line_of, is_word, IsLineOf, Reads}
use Rattle.commands.specs.Malformed.{if_ok}
use Rattle.commands.specs.declared.malformed.Malformed.{Malformed}
use Rattle.commands.specs.declared.malformed.Malformed.TheVariants.{Words}

abbrev unbroken : List ℕ → Bool
unbroken w = not (list_any is_blank w)

unbroken_head : (b : Bool) (x : ℕ) (ws : List (List ℕ)) → is_blank x ≡ b → list_all unbroken ws ≡ true
    → list_all unbroken (cond b ([] ∷ ws) (onto_first x ws)) ≡ true
unbroken_head true x ws is all = all
unbroken_head false x [] is all = rw is refl
unbroken_head false x (w ∷ ws) is all = rw is all

all_unbroken : (line : List ℕ) → list_all unbroken (words_of line) ≡ true
all_unbroken [] = refl
all_unbroken (x ∷ xs) = unbroken_head (is_blank x) x (words_of xs) refl (all_unbroken xs)

word_head : (gap plain gaps plains words : Bool) → (gap || gaps) ≡ false → (plain && plains) ≡ true → (gaps ≡ false → plains ≡ true → words ≡ true)
    → ((not gap && plain) && words) ≡ true
word_head true plain gaps plains words none all more = absurd (cc)
word_head false false gaps plains words none all more = absurd (cc)
word_head false true gaps plains words none all more = more none all

all_words : (ws : List (List ℕ)) → list_any is_gap ws ≡ false → list_all unbroken ws ≡ true → list_all is_word ws ≡ true
all_words [] none all = refl
all_words (w ∷ ws) none all = word_head (is_gap w) (unbroken w) _ _ _ none all (all_words ws)

-- without a gap each is a word
each_word : (line : List ℕ) → list_any is_gap (words_of line) ≡ false → list_all is_word (words_of line) ≡ true
each_word line none = all_words (words_of line) none (all_unbroken line)

cut_head : (b more : Bool) (x : ℕ) (xs : List ℕ) (ws rest : List (List ℕ)) → (b || more) ≡ false → (more ≡ false → ws ≡ xs ∷ rest)
    → cond b ([] ∷ ws) (onto_first x ws) ≡ (x ∷ xs) ∷ rest
cut_head true more x xs ws rest none go = absurd (cc)
cut_head false more x xs ws rest none go = ap (onto_first x) (go none)

only_word : (w : List ℕ) → list_any is_blank w ≡ false → words_of w ≡ w ∷ []
only_word [] none = refl
only_word (x ∷ xs) none = cut_head (is_blank x) (list_any is_blank xs) x xs (words_of xs) [] none (only_word xs)

first_word : (w rest : List ℕ) → list_any is_blank w ≡ false → words_of (w ++ 32 ∷ rest) ≡ w ∷ words_of rest
first_word [] rest none = refl
first_word (x ∷ xs) rest none =
    cut_head (is_blank x) (list_any is_blank xs) x xs (words_of (xs ++ 32 ∷ rest)) (words_of rest) none (first_word xs rest)

parts_of_word : (gap blank more : Bool) → ((not gap && not blank) && more) ≡ true → (gap ≡ false) × (blank ≡ false) × (more ≡ true)
parts_of_word true blank more h = absurd (cc)
parts_of_word false true more h = absurd (cc)
parts_of_word false false more h = (refl, refl, h)

parted : (w : List ℕ) (ws : List (List ℕ)) → list_all is_word (w ∷ ws) ≡ true → words_of (line_of (w ∷ ws)) ≡ w ∷ ws
parted w [] each = only_word w (parts_of_word (is_gap w) (list_any is_blank w) true each).1
parted w (v ∷ more) each =
    let p = parts_of_word (is_gap w) (list_any is_blank w) (list_all is_word (v ∷ more)) each in
    first_word w (line_of (v ∷ more)) p.1 ∙ ap (λ ws. w ∷ ws) (parted v more p.2)

gap_head : (gap blank words gaps : Bool) → ((not gap && not blank) && words) ≡ true → (words ≡ true → gaps ≡ false) → (gap || gaps) ≡ false
gap_head true blank words gaps each more = absurd (cc)
gap_head false true words gaps each more = absurd (cc)
gap_head false false words gaps each more = more each

no_gap : (ws : List (List ℕ)) → list_all is_word ws ≡ true → list_any is_gap ws ≡ false
no_gap [] each = refl
no_gap (w ∷ ws) each = gap_head (is_gap w) (list_any is_blank w) (list_all is_word ws) (list_any is_gap ws) each (no_gap ws)

read_back : (w : List ℕ) (ws : List (List ℕ)) → list_all is_word (w ∷ ws) ≡ true → words_in (line_of (w ∷ ws)) ≡ Ok (w ∷ ws)
read_back w ws each = rw (parted w ws each, no_gap (w ∷ ws) each) refl

-- words are read as what they write
pub record IsInverse {X : Type 0} (Writes : X → List (List ℕ) → Type 0) (read : List (List ℕ) → Result X Malformed) : Type 0 where
  pub written : (ws : List (List ℕ)) (x : X) → read ws ≡ Ok x → Writes x ws
  pub back : (x : X) (ws : List (List ℕ)) → Writes x ws → read ws ≡ Ok x
  pub none : read [] ≡ Err Words

words_back : {X : Type 0} {Writes : X → List (List ℕ) → Type 0} {read : List (List ℕ) → Result X Malformed} → IsInverse Writes read
    → (x : X) (ws : List (List ℕ)) → Writes x ws → list_all is_word ws ≡ true → words_in (line_of ws) ≡ Ok ws
words_back v x [] h each = let none = v.none in let some = v.back x [] h in absurd (cc)
words_back v x (w ∷ ws) h each = read_back w ws each

line_read : {X : Type 0} {Writes : X → List (List ℕ) → Type 0} {read : List (List ℕ) → Result X Malformed} → IsInverse Writes read
    → (x : X) (line : List ℕ) → IsLineOf Writes x line → if_ok (words_in line) read ≡ Ok x
line_read v x line l = rw (l.whole, words_back v x l.parts l.writes l.each) (v.back x l.parts l.writes)

from_words : {X : Type 0} (read : List (List ℕ) → Result X Malformed) (gap : Bool) (ws : List (List ℕ)) (x : X)
    → if_ok (cond gap (Err Words) (Ok ws)) read ≡ Ok x → (gap ≡ false) × (read ws ≡ Ok x)
from_words read true ws x h = absurd (cc)
from_words read false ws x h = (refl, h)

line_written : {X : Type 0} {Writes : X → List (List ℕ) → Type 0} {read : List (List ℕ) → Result X Malformed} → IsInverse Writes read
    → (line : List ℕ) (x : X) → if_ok (words_in line) read ≡ Ok x → IsLineOf Writes x line
line_written {read} v line x h =
    let p = from_words read (list_any is_gap (words_of line)) (words_of line) x h in
    record { parts = words_of line; each = each_word line p.0; writes = v.written (words_of line) x p.1; whole = sym (join_with_byte-slice_split 32 line) }

-- and so are lines
pub reads_lines : {X : Type 0} {Writes : X → List (List ℕ) → Type 0} {read : List (List ℕ) → Result X Malformed} → IsInverse Writes read
    → (line : List ℕ) (r : Result X Malformed) → r ≡ if_ok (words_in line) read → Reads Writes line r
reads_lines v line (Ok x) h = line_written v line x (sym h)
reads_lines v line (Err e) h = λ x l. let right = line_read v x line l in absurd (cc)
