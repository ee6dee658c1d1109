-- Every tag of the structure stands within the upload, and every field has a lawful ID, and a value that lies in the upload. Assumes nothing.
use Rattle.std.proofs.Common.{◌≡◌, ℕ, suc, ◌+◌, ◌≤◌, List, [], ◌∷◌, ◌++◌, length, take, drop, sym, refl, ap, ◌∙◌, subst, arith, length-append, length-drop}
use Rattle.std.proofs.lemmas.List.{drop-drop}
use Rattle.std.proofs.Math.Seq.{take-append_seam, drop-append_seam, drop-append-add}
use Rattle.std.specs.List.{All}
use Rattle.std.proofs.lemmas.List.Elements.{All-nil, All-cons, All-head}
use Rattle.grammar.specs.Grammar.{Id, opening, closing, spelling, Path, here, skips, turns, holds}
use Rattle.grammar.specs.Items.{Item, structure, field, items}
use Rattle.grammar.specs.declared.states.State.{State}
use Rattle.grammar.specs.declared.states.FieldId.{FieldId}
use Rattle.grammar.proofs.Tested.{rest_from_test}
use Rattle.cursor.specs.Left.{left}
use Rattle.cursor.specs.declared.cursor.Cursor.{Cursor}
use Rattle.cursor.proofs.Left.{left_is, spelled}
use Rattle.records.specs.Records.{Lies}

abbrev pub ItemLies : List ℕ → Item → Type 0
ItemLies upload (structure t at) = at ≤ length upload
ItemLies upload (field i at v) = Lies upload (record { id = i; place = at; value = v })

module _ (upload : List ℕ) where
  onward : (at : ℕ) (u w : List ℕ) → drop at upload ≡ u ++ w → drop (at + length u) upload ≡ w
  onward at u w e = sym (drop-drop (length u) at upload) ∙ ap (drop (length u)) e ∙ drop-append_seam u w

  behind_value : (i : FieldId) (v w : List ℕ) → drop (5 + length v + 6) (opening i ++ (v ++ (closing i ++ w))) ≡ w
  behind_value i v w =
      let e : 5 + length v + 6 ≡ suc (suc (suc (suc (suc (length v + 6))))) = omega arith in
      ap (λ k. drop k (opening i ++ (v ++ (closing i ++ w)))) e ∙ drop-append-add v (closing i ++ w) 6

  held : (at : ℕ) (i : FieldId) (v w : List ℕ) → Id i → drop at upload ≡ opening i ++ (v ++ (closing i ++ w)) → Lies upload (record { id = i; place = at; value = v })
  held at i v w d e = record {
    id = d;
    within = omega (arith, ap length e, length-drop at upload, length-append v (closing i ++ w));
    there = ap (take (length v)) (sym (drop-drop 5 at upload) ∙ ap (drop 5) e) ∙ take-append_seam v (closing i ++ w);
  }

  pub items_lie : {s n : State} {w : List ℕ} (at : ℕ) (p : Path s w n) → drop at upload ≡ w → All (ItemLies upload) (items at p)
  items_lie at here e = All-nil (ItemLies upload)
  items_lie at (skips {b = b} {w = w} h p) e = items_lie (at + 1) p (onward at (b ∷ []) w e)
  items_lie at (turns {t = t} {w = w} h p) e = All-cons (ItemLies upload) _ _ (omega (arith, ap length e, spelled t, length-drop at upload, length-append (spelling t) w)) (items_lie (at + length (spelling t)) p (onward at (spelling t) w e))
  items_lie at (holds {i = i} {v = v} {w} d h p) e =
      All-cons (ItemLies upload) _ _ (held at i v w d e)
      (items_lie (at + 5 + length v + 6) p
      (let k : at + 5 + length v + 6 ≡ at + (5 + length v + 6) = omega arith in
      ap (λ m. drop m upload) k ∙ sym (drop-drop (5 + length v + 6) at upload) ∙ ap (drop (5 + length v + 6)) e ∙ behind_value i v w))

-- what a cursor has still to give
pub left_lies : (c : Cursor) → All (ItemLies c.upload.now) (left c)
left_lies c =
    let p = rest_from_test c.state (drop c.at c.upload.now) c.rest in
    subst (All (ItemLies c.upload.now)) (left_is c p) (items_lie c.upload.now c.at p refl)

-- the field that it gives first
pub first_lies : (c : Cursor) (i : FieldId) (at : ℕ) (v : List ℕ) (is : List Item) → left c ≡ field i at v ∷ is → Lies c.upload.now (record { id = i; place = at; value = v })
first_lies c i at v is e = All-head (ItemLies c.upload.now) (field i at v) is (subst (All (ItemLies c.upload.now)) e (left_lies c))
