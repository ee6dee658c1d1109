-- What a cursor has still to give is what the rest of the upload holds, in whatever way that is read. Assumes nothing.
use Rattle.std.specs.Prelude.{⊤}
use Rattle.std.proofs.Common.{◌≡◌, ℕ, zero, suc, ◌+◌, ◌<◌, ◌≤◌, List, [], ◌∷◌, ◌++◌, map, length, drop, Some, None, Option, IfNone, IfSome, sym, ap, ◌∙◌, subst, arith, append-nil, length-drop}
use Rattle.std.specs.Iterator.{MakesProgress, Yields, YieldsFirstBy, item_count}
use Rattle.std.specs.Option.{option_map}
use Rattle.grammar.specs.Ahead.{white_len, closes}
use Rattle.grammar.specs.Grammar.{declaration, Rest, Lawful, spelling}
use Rattle.grammar.specs.Items.{Item, items, items_of}
use Rattle.grammar.specs.Tags.{wanted}
use Rattle.grammar.specs.declared.states.State.{State}
use Rattle.grammar.specs.declared.states.State.TheVariants.{Start}
use Rattle.grammar.specs.declared.states.Tag.{Tag}
use Rattle.grammar.specs.declared.states.Tag.TheVariants.{Open, Close}
use Rattle.grammar.specs.declared.states.Wanted.{Wanted}
use Rattle.grammar.specs.declared.states.Wanted.TheVariants.{Structure, Field, Nothing}
use Rattle.grammar.proofs.Tested.{rest_from_test}
use Rattle.cursor.specs.Left.{left, Advances}
use Rattle.cursor.specs.Pieces.{item, Gives, Steps}
use Rattle.cursor.specs.declared.cursor.Cursor.{Cursor}
use Rattle.cursor.specs.declared.cursor.Piece.{Piece}
use Rattle.cursor.proofs.Firsts.{First, Begins, begins}
use Rattle.cursor.proofs.Steps.{declared}

-- two ways to read some bytes that begin alike, and go on alike behind that
abbrev AlikeBehind : List ℕ → Type 0
AlikeBehind u = (len at : ℕ) → 0 < len → len ≤ length u → (s : State) (p q : Rest s (drop len u)) → items at p ≡ items at q

alike_first : {at : ℕ} {is js : List Item} {u : List ℕ} {found : Item} {len : ℕ} {s : State} → 0 < len → AlikeBehind u → First at is u found len s → First at js u found len s → is ≡ js
alike_first {found = found} pos behind a b = a.told ∙ ap (λ ks. found ∷ ks) (behind _ _ pos a.within _ a.rest b.rest) ∙ sym b.told

pub spelled : (t : Tag) → 0 < length (spelling t)
spelled (Open e) = omega arith
spelled (Close e) = omega arith

alike : (at : ℕ) (is js : List Item) (s : State) (u : List ℕ) (w : Wanted) → AlikeBehind u → Begins at is s u w → Begins at js s u w → is ≡ js
alike at is js s u (Structure t) behind a b = alike_first (spelled t) behind a b
alike at is js s u (Field g) behind a b = alike_first (omega arith) behind a b
alike at is js s u Nothing behind a b = a ∙ sym b

one_list : (n : ℕ) {s : State} {w : List ℕ} (at : ℕ) → length w < n → (p q : Rest s w) → items at p ≡ items at q
one_list zero at l p q = absurd (omega arith)
one_list (suc n) {s} {w} at l p q =
    let ahead = drop (white_len w) w in
    alike (at + white_len w) (items at p) (items at q) s ahead (wanted s (closes ahead))
    (λ len to pos within m. one_list n to (omega (arith, length-drop len ahead, length-drop (white_len w) w)))
    (begins at p) (begins at q)

pub left_is : (c : Cursor) (p : Rest c.state (drop c.at c.upload.now)) → items c.at p ≡ left c
unfolding left
left_is c p = one_list (suc (length (drop c.at c.upload.now))) c.at (omega arith) p (rest_from_test c.state (drop c.at c.upload.now) c.rest)

-- at the beginning of an upload that is all that it holds
pub begun : (c : Cursor) {upload : List ℕ} → c.upload.now ≡ upload → c.at ≡ length declaration → c.state ≡ Start → (l : Lawful upload) → items_of l ≡ left c
begun c e f g l =
    let at_start = subst (λ (s : State). (p : Rest s (drop c.at c.upload.now)) → items c.at p ≡ left c) g (left_is c) in
    let at_first = subst (λ (k : ℕ). (p : Rest Start (drop k c.upload.now)) → items k p ≡ left c) f at_start in
    let of_all = subst (λ (u : List ℕ). (p : Rest Start (drop (length declaration) u)) → items (length declaration) p ≡ left c) e at_first in
    subst (λ (w : List ℕ). (p : Rest Start w) → items (length declaration) p ≡ left c) (declared l) of_all l.path

-- a step takes the first item of what is left
pub advances : (old new : Cursor) (r : Option Piece) → new.upload.now ≡ old.upload.now → IfSome r (λ _. old.at < new.at) → IfNone r (new ≡ old) → Steps old.upload.now old.at old.state r new.at new.state → Advances old r new
advances old new r same falls ends steps = record { gives = gives r ends (steps.told p); steps = steps; upload = same; falls = falls; ends = ends }
  where
    p : Rest old.state (drop old.at old.upload.now)
    p = rest_from_test old.state (drop old.at old.upload.now) old.rest

    behind : (q : Rest new.state (drop new.at old.upload.now)) → items new.at q ≡ left new
    behind = subst (λ (u : List ℕ). (q : Rest new.state (drop new.at u)) → items new.at q ≡ left new) same (left_is new)

    gives : (found : Option Piece) → IfNone found (new ≡ old) → Gives old.upload.now (items old.at p) (option_map item found) new.at new.state → YieldsFirstBy item left old found new
    gives None e none = let k = sym (left_is old p) ∙ none in (k, subst (λ (c : Cursor). left c ≡ []) (sym e) k)
    gives (Some piece) e told = sym (left_is old p) ∙ told.1 ∙ ap (λ ks. item piece ∷ ks) (behind told.0)

-- so fewer are left
pub nearer_end : (old new : Cursor) (piece : Piece) → Advances old (Some piece) new → MakesProgress (λ _. ⊤) (item_count left) old (Some piece) new
nearer_end old new piece step = record { on = λ _. (tt, tt, omega (arith, ap length step.gives)); keeps = tt; rests = λ _. tt }

-- and steps take the first items of it
pub taken : (from to : Cursor) (pieces : List Piece) → Yields Advances from pieces to → left from ≡ map item pieces ++ left to
taken from to [] e = ap left e
taken from to (piece ∷ pieces) e = e.1.gives ∙ ap (λ ks. item piece ∷ ks) (taken e.0 to pieces e.2)

-- until none is left: those were all that the upload holds
pub all_taken : (upload : List ℕ) (from to end : Cursor) (pieces : List Piece) → from.upload.now ≡ upload → from.at ≡ length declaration → from.state ≡ Start
    → Yields Advances from pieces to → Advances to None end → (l : Lawful upload) → items_of l ≡ map item pieces
all_taken upload from to end pieces e f g steps none l =
    begun from e f g l ∙ taken from to pieces steps ∙ ap (λ ks. map item pieces ++ ks) none.gives.0 ∙ append-nil (map item pieces)
