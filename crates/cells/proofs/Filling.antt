-- Filling the cells of a segment, field by field. Assumes nothing.
use Rattle.std.proofs.Common.{◌≡◌, ℕ, Bool, true, false, ◌&&◌, if◌then◌else◌, List, [], ◌∷◌, ◌++◌, Some, None, Option, ap, refl, sym, ◌∙◌, arith}
use Rattle.std.proofs.lemmas.List.Folds.{find-append}
use Rattle.std.specs.List.{find}
use Rattle.std.specs.Option.{option_or}
use Rattle.grammar.specs.declared.states.Segment.{Segment}
use Rattle.records.specs.Records.{Written, Lies}
use Rattle.records.specs.Parts.{part_of, part_upload}
use Rattle.records.specs.declared.part.OpenPart.{OpenPart}
use Rattle.fields.specs.declared.field.Field.{Field}
use Rattle.cells.specs.Cells.{is_free, text_at, cell_at, stands_in, is_at, put}
use Rattle.cells.specs.Filled.{is_written, first_at, cell_of, value_of, value_in, Filled}
use Rattle.cells.specs.declared.cells.Cell.{Cell}
use Rattle.cells.specs.declared.cells.Cells.{Cells}
use Rattle.cells.proofs.Standing.{named_at_home}

-- so far the fields ws of the segment g are read, from the upload u
pub record Fills (u : List ℕ) (g : Segment) (ws : List Written) (old new : Cells) : Type 0 where
  pub upload : new.upload ≡ old.upload
  pub cells : (f : Field) → cell_at new f ≡ if stands_in f g then cell_of (first_at g f ws) else cell_at old f
  pub texts : (f : Field) → text_at u (cell_of (first_at g f ws)) ≡ value_in g f ws

-- what is found passes the test
found_passes : {X : Type 0} (p : X → Bool) (xs : List X) (x : X) → find p xs ≡ Some x → p x ≡ true
found_passes p [] x e = cc
found_passes p (y ∷ xs) x e = let r = found_passes p xs x in grind (arith, r)

first_written : (g : Segment) (f : Field) (ws : List Written) (w : Written) → first_at g f ws ≡ Some w → is_free (cell_of (first_at g f ws)) ≡ false
first_written g f ws w e = let h = found_passes (λ x. is_written x && is_at g x.id f) ws w e in grind (arith)

-- one field more is the first only where none was before it
first_more : (g : Segment) (f : Field) (ws : List Written) (w : Written)
    → first_at g f (ws ++ w ∷ []) ≡ option_or (first_at g f ws) (if is_written w && is_at g w.id f then Some w else None)
first_more g f ws w = find-append (λ x. is_written x && is_at g x.id f) ws (w ∷ []) ∙ ap (option_or (first_at g f ws)) refl

pub passed : (u : List ℕ) (g : Segment) (ws : List Written) (old new : Cells) (w : Written) → is_written w ≡ false → Fills u g ws old new → Fills u g (ws ++ w ∷ []) old new
passed u g ws old new w e k = record {
  upload = k.upload;
  cells = λ f. k.cells f ∙ ap (λ o. if stands_in f g then cell_of o else cell_at old f) (sym (same f));
  texts = λ f. rw (same f) (k.texts f);
}
  where
    same : (f : Field) → first_at g f (ws ++ w ∷ []) ≡ first_at g f ws
    same f = let m = first_more g f ws w in grind (arith)

-- a cell, where the field is written first in o or not at all, stands in the segment if s, and the next field is another writing of it if b
cell_more : (o : Option Written) (b s : Bool) (w : Written) (now next before : Cell) → (b ≡ true → s ≡ true) → ((x : Written) → o ≡ Some x → is_free (cell_of o) ≡ false)
    → now ≡ (if s then cell_of o else before) → next ≡ (if b && is_free now then cell_of (Some w) else now)
    → next ≡ if s then cell_of (option_or o (if b then Some w else None)) else before
cell_more None true s w now next before h k e d = let m = h refl in grind (arith)
cell_more None false s w now next before h k e d = grind (arith)
cell_more (Some x) b true w now next before h k e d = let m = k x refl in grind (arith)
cell_more (Some x) true false w now next before h k e d = let m = h refl in grind (arith)
cell_more (Some x) false false w now next before h k e d = grind (arith)

text_more : (o : Option Written) (b : Bool) (upload : List ℕ) (w : Written) → Lies upload w → text_at upload (cell_of o) ≡ value_of o
    → text_at upload (cell_of (option_or o (if b then Some w else None))) ≡ value_of (option_or o (if b then Some w else None))
text_more None true upload w l e = l.there
text_more None false upload w l e = refl
text_more (Some x) b upload w l e = e

pub noted : (u : List ℕ) (g : Segment) (ws : List Written) (old mid new : Cells) (w : Written) → is_written w ≡ true → Lies u w → new.upload ≡ mid.upload
    → ((f : Field) → cell_at new f ≡ put g w.id (cell_of (Some w)) mid f) → Fills u g ws old mid → Fills u g (ws ++ w ∷ []) old new
noted u g ws old mid new w e l r p k = record {
  upload = r ∙ k.upload;
  cells = λ f. rw (more f) (cell_more (first_at g f ws) (is_at g w.id f) (stands_in f g) w (cell_at mid f) _ (cell_at old f) (named_at_home g w.id f) (first_written g f ws) (k.cells f) (p f));
  texts = λ f. rw (more f) (text_more (first_at g f ws) (is_at g w.id f) u w l (k.texts f));
}
  where
    more : (f : Field) → first_at g f (ws ++ w ∷ []) ≡ option_or (first_at g f ws) (if is_at g w.id f then Some w else None)
    more f = let m = first_more g f ws w in grind (arith)

value_by : (s : Bool) (c o before : Cell) (now u upload : List ℕ) (v : List ℕ) → now ≡ upload → u ≡ upload → c ≡ (if s then o else before) → text_at u o ≡ v
    → text_at now c ≡ if s then v else text_at upload before
value_by true c o before now u upload v e r k t = grind (arith)
value_by false c o before now u upload v e r k t = grind (arith)

-- all fields of the part are read
pub filled : (p : OpenPart) (ws : List Written) (old new : Cells) → (part_of p).fields ≡ ws → Fills (part_upload p) p.segment ws old new → Filled p old new
filled p ws old new e k = record {
  upload = k.upload;
  cells = λ f. rw e (k.cells f);
  values = λ r f.
      rw e (value_by (stands_in f p.segment) (cell_at new f) (cell_of (first_at p.segment f ws)) (cell_at old f) new.upload.now (part_upload p) old.upload.now (value_in p.segment f ws)
      (ap (λ u. u.now) k.upload) r (k.cells f) (k.texts f));
}
