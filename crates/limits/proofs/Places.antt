-- Where the items of an upload stand. Assumes nothing.
use Rattle.std.proofs.Common.{◌≡◌, ℕ, ◌+◌, ◌≤◌, List, [], ◌∷◌, ◌++◌, map, length, drop, Some, ap, ◌∙◌, arith, length-append, length-drop}
use Rattle.std.specs.Iterator.{Yields}
use Rattle.grammar.specs.Grammar.{spelling, closing, Path, here, skips, turns, holds}
use Rattle.grammar.specs.Items.{Item, structure, field, items}
use Rattle.grammar.specs.declared.states.State.{State}
use Rattle.grammar.proofs.Tested.{rest_from_test}
use Rattle.cursor.specs.Left.{Advances}
use Rattle.cursor.specs.Pieces.{item}
use Rattle.cursor.specs.declared.cursor.Cursor.{Cursor}
use Rattle.cursor.specs.declared.cursor.Piece.{Piece}
use Rattle.cursor.proofs.Left.{spelled, left_is, taken}
use Rattle.limits.specs.Limits.{place_of}

-- an item of some bytes stands among them, and each item before it takes one at least
place_within : {s n : State} {w : List ℕ} (at : ℕ) (p : Path s w n) (front : List Item) (x : Item) (back : List Item)
    → items at p ≡ front ++ (x ∷ back) → (at + length front ≤ place_of x) × (place_of x ≤ at + length w)
place_within at here [] x back e = cc
place_within at here (y ∷ front) x back e = cc
place_within at (skips h p) front x back e = let k = place_within (at + 1) p front x back e in (omega arith, omega arith)
place_within at (turns {t} {w = w} h p) [] x back e =
    let f : structure t at ≡ x = cc in
    let g = ap place_of f in
    (omega arith, omega arith)
place_within at (turns {t} {w = w} h p) (y ∷ front) x back e =
    let f : items (at + length (spelling t)) p ≡ front ++ (x ∷ back) = cc in
    let k = place_within (at + length (spelling t)) p front x back f in
    (omega (arith, spelled t), omega (arith, length-append (spelling t) w))
place_within at (holds {i = i} {v = v} {w} d h p) [] x back e =
    let f : field i at v ≡ x = cc in
    let g = ap place_of f in
    (omega arith, omega arith)
place_within at (holds {i = i} {v = v} {w} d h p) (y ∷ front) x back e =
    let f : items (at + 5 + length v + 6) p ≡ front ++ (x ∷ back) = cc in
    let k = place_within (at + 5 + length v + 6) p front x back f in
    (omega arith, omega (arith, length-append v (closing i ++ w)))

-- so does the piece that a cursor gives
pub piece_within : (from to next : Cursor) (pieces : List Piece) (piece : Piece) → Yields Advances from pieces to → Advances to (Some piece) next
    → (length (map item pieces) ≤ place_of (item piece)) × (place_of (item piece) ≤ length from.upload.now)
piece_within from to next pieces piece steps step =
    let p = rest_from_test from.state (drop from.at from.upload.now) from.rest in
    let e = left_is from p ∙ taken from to pieces steps ∙ ap (λ is. map item pieces ++ is) step.gives in
    let k = place_within from.at p (map item pieces) (item piece) _ e in
    let within = from.within in
    (omega arith, omega (arith, length-drop from.at from.upload.now))
