-- The records of a lawful upload. Assumes nothing.
use Rattle.std.proofs.Common.{ℕ, ◌+◌, ◌≤◌, List, ◌∷◌, ◌++◌, length, ap, arith, length-append}
use Rattle.std.specs.List.{All}
use Rattle.std.proofs.lemmas.List.Elements.{All-nil, All-cons, All-tail}
use Rattle.grammar.specs.Grammar.{declaration, spelling, closing, opens_record, Path, Rest, here, skips, turns, holds, Lawful}
use Rattle.grammar.specs.Items.{Item, structure, items, items_of}
use Rattle.grammar.specs.declared.states.State.{State}
use Rattle.grammar.specs.declared.states.Element.TheVariants.{Rec}
use Rattle.grammar.specs.declared.states.Tag.{Tag}
use Rattle.grammar.specs.declared.states.Tag.TheVariants.{Open}
use Rattle.cursor.proofs.Left.{spelled}
use Rattle.cursor.proofs.Steps.{declared}
use Rattle.records.specs.Records.{records_of}
use Rattle.records.specs.Orderly.{WellFormed}
use Rattle.records.proofs.Lying.{ItemLies, items_lie}
use Rattle.records.proofs.Orderly.{AllLie, record_stands}

-- each is well formed
module _ (upload : List ℕ) where
  tail_lies : (x : Item) (is : List Item) → AllLie upload (x ∷ is) → AllLie upload is
  tail_lies x is h = All-tail (ItemLies upload) x is h

  stand : {s : State} {w : List ℕ} (at : ℕ) (p : Rest s w) → AllLie upload (items at p) → All (WellFormed upload) (records_of (items at p))
  stand at here h = All-nil (WellFormed upload)
  stand at (skips k p) h = stand (at + 1) p h
  stand at (turns opens_record p) h = All-cons (WellFormed upload) _ _ (record_stands upload (at + 5) p (tail_lies _ _ h)) (stand (at + 5) p (tail_lies _ _ h))
  stand at (turns {t = t} k p) h = stand (at + length (spelling t)) p (tail_lies _ _ h)
  stand at (holds {v = v} d k p) h = stand (at + 5 + length v + 6) p (tail_lies _ _ h)

pub records_stand : (bs : List ℕ) (l : Lawful bs) → All (WellFormed bs) (records_of (items_of l))
records_stand bs l = stand bs (length declaration) l.path (items_lie bs (length declaration) l.path (declared l))

-- and there are no more of them than bytes
one_more : (t : Tag) (at : ℕ) (is : List Item) → length (records_of (structure t at ∷ is)) ≤ 1 + length (records_of is)
one_more (Open Rec) at is = omega arith
one_more _ at is = omega arith

within : {s n : State} {w : List ℕ} (at : ℕ) (p : Path s w n) → length (records_of (items at p)) ≤ length w
within at here = omega arith
within at (skips k p) = let e = within (at + 1) p in omega arith
within at (turns {t = t} {w = w} k p) =
    let next = at + length (spelling t) in
    omega (arith, within next p, one_more t at (items next p), spelled t, length-append (spelling t) w)
within at (holds {i = i} {v} {w} d k p) = omega (arith, within (at + 5 + length v + 6) p, length-append v (closing i ++ w))

pub records_within : (bs : List ℕ) (l : Lawful bs) → length (records_of (items_of l)) ≤ length bs
records_within bs l = omega (arith, within (length declaration) l.path, ap length l.declared, length-append declaration l.rest)
