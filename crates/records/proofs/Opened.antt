-- What stands behind the tag of a record. Assumes nothing.
use Rattle.std.proofs.Common.{◌≡◌, ℕ, ◌+◌, List, ◌∷◌, length, drop, sym, refl, ap, ◌∙◌, subst}
use Rattle.grammar.specs.Grammar.{Turn, opens_record, opens_header, closes_header, opens_body, opens_visit, Rest, here, skips, turns, holds, spelling}
use Rattle.grammar.specs.Items.{Item, structure, items}
use Rattle.grammar.specs.declared.states.Segment.TheVariants.{Header, Visit}
use Rattle.grammar.specs.declared.states.State.{State}
use Rattle.grammar.specs.declared.states.State.TheVariants.{Record, Within, Headed, Body}
use Rattle.grammar.specs.declared.states.Element.TheVariants.{Rec}
use Rattle.grammar.specs.declared.states.Tag.{Tag}
use Rattle.grammar.specs.declared.states.Tag.TheVariants.{Open}
use Rattle.grammar.proofs.Tested.{rest_from_test}
use Rattle.cursor.specs.Left.{left}
use Rattle.cursor.specs.Pieces.{item}
use Rattle.cursor.specs.declared.cursor.Cursor.{Cursor}
use Rattle.cursor.specs.declared.cursor.Piece.{Piece}
use Rattle.cursor.specs.declared.cursor.Piece.TheVariants.{Structure}
use Rattle.cursor.proofs.Left.{left_is}
use Rattle.records.specs.Records.{Follows, part_ahead, behind, orders_ahead, close_ahead, record_ahead}
use Rattle.records.specs.Parts.{part_of, read_of}
use Rattle.records.specs.declared.part.OpenPart.{OpenPart}

-- behind <REC> a record is read
opened : {s n : State} → Turn s (Open Rec) n → n ≡ Record
opened opens_record = refl

first_opened : {s : State} {w : List ℕ} (at : ℕ) (p : Rest s w) (k : ℕ) (is : List Item) → items at p ≡ structure (Open Rec) k ∷ is → Follows Record is
first_opened at here k is e = absurd cc
first_opened at (skips h p) k is e = first_opened (at + 1) p k is e
first_opened at (turns {s} {m} {t = t} {w = w} h p) k is e =
    let f : t ≡ Open Rec = cc in
    let g : items (at + length (spelling t)) p ≡ is = cc in
    subst (λ n. Follows n is) (opened (subst (λ u. Turn s u m) f h)) (record { at = at + length (spelling t); bytes = w; path = p; read = sym g })
first_opened at (holds d h p) k is e = absurd cc

pub opened_left : (c : Cursor) (piece : Piece) (t : Tag) (k : ℕ) (is : List Item) → left c ≡ item piece ∷ is → piece ≡ Structure t k → t ≡ Open Rec → Follows Record is
opened_left c piece t k is e f g =
    let p = rest_from_test c.state (drop c.at c.upload.now) c.rest in
    first_opened c.at p k is (left_is c p ∙ e ∙ ap (λ x. item x ∷ is) f ∙ ap (λ u. structure u k ∷ is) g)

-- no order begins or ends before the visit
abbrev pub OrdersBehind : List Item → Type 0
OrdersBehind is = (orders_ahead (behind Visit is) ≡ orders_ahead is) × (close_ahead (behind Visit is) ≡ close_ahead is)

body : {w : List ℕ} (at : ℕ) (p : Rest Body w) → OrdersBehind (items at p)
body at (skips h p) = body (at + 1) p
body at (turns opens_visit p) = (refl, refl)

headed : {w : List ℕ} (at : ℕ) (p : Rest Headed w) → OrdersBehind (items at p)
headed at (skips h p) = headed (at + 1) p
headed at (turns opens_body p) = body (at + 4) p

header : {w : List ℕ} (at : ℕ) (p : Rest (Within Header) w) → OrdersBehind (items at p)
header at (skips h p) = header (at + 1) p
header at (turns closes_header p) = headed (at + 6) p
header at (holds {v = v} d h p) = header (at + 5 + length v + 6) p

begun : {w : List ℕ} (at : ℕ) (p : Rest Record w) → OrdersBehind (items at p)
begun at (skips h p) = begun (at + 1) p
begun at (turns opens_header p) = header (at + 5) p

pub orders_behind : (is : List Item) → Follows Record is → OrdersBehind is
orders_behind is f = subst OrdersBehind (sym f.read) (begun f.at f.path)

-- the parts that begin ahead are those of the record whose items come next
pub read_ahead : (header visit : OpenPart) (is : List Item) → Follows Record is → part_of header ≡ part_ahead Header is → part_of visit ≡ part_ahead Visit is
    → left visit.cursor ≡ behind Visit is → read_of header visit ≡ record_ahead is
read_ahead header visit is f h v l = let orders = orders_behind is f in rw (h, v, l, orders.0, orders.1) refl
