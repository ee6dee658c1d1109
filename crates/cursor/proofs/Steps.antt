-- One step of a cursor. Assumes nothing.
use Rattle.std.proofs.Common.{◌≡◌, ℕ, ◌+◌, ◌-◌, ◌≤◌, true, List, ◌∷◌, length, drop, sym, refl, ap, subst, arith, length-drop, length-append}
use Rattle.std.proofs.lemmas.List.{drop-drop, get_or-drop}
use Rattle.std.proofs.lemmas.List.Sums.{prefix_len-le-length}
use Rattle.grammar.specs.Bytes.{white}
use Rattle.grammar.specs.Grammar.{Rest, Lawful, declaration, spelling}
use Rattle.grammar.specs.Items.{Item, structure, items}
use Rattle.grammar.specs.Tags.{behind, wanted}
use Rattle.grammar.specs.Threads.{is_lawful_from}
use Rattle.grammar.specs.declared.states.State.{State}
use Rattle.grammar.specs.declared.states.State.TheVariants.{Start}
use Rattle.grammar.specs.declared.states.Wanted.{Wanted}
use Rattle.grammar.specs.declared.states.Wanted.TheVariants.{Structure, Field, Nothing}
use Rattle.grammar.proofs.Tested.{rest_from_test, test_from_rest}
use Rattle.grammar.specs.Ahead.{white_len, closes}
use Rattle.cursor.specs.Scan.{value_len}
use Rattle.cursor.specs.Pieces.{field_at, value_end, Comes, Meets}
use Rattle.cursor.proofs.Firsts.{First, Begins, BeginsAsWanted, begins}

-- the place behind the white space
pub black_within : (upload : List ℕ) (at : ℕ) → at ≤ length upload → at + white_len (drop at upload) ≤ length upload
black_within upload at l = let e = prefix_len-le-length white (drop at upload) in let f = length-drop at upload in omega arith

module _ (upload : List ℕ) (at : ℕ) (s : State) (lawful : is_lawful_from s (drop at upload) ≡ true) (place : ℕ) (within : place ≤ length upload) where
  comes : (found : Item) (len to : ℕ) (n : State) → place + len ≡ to → ((p : Rest s (drop at upload)) → First place (items at p) (drop place upload) found len n) → Comes upload at s found to n
  comes found len to n e begun =
      subst (λ k. Comes upload at s found k n) e
      (record {
        within = let l = (begun p).within in let f = length-drop place upload in omega arith;
        rest = test_from_rest n _ (told p).0;
        told = told;
      })
    where
      p : Rest s (drop at upload)
      p = rest_from_test s (drop at upload) lawful

      told : (p : Rest s (drop at upload)) → (q : Rest n (drop (place + len) upload)) × (items at p ≡ found ∷ items (place + len) q)
      told p = subst (λ (u : List ℕ). (q : Rest n u) × (items at p ≡ found ∷ items (place + len) q)) (drop-drop len place upload) ((begun p).rest, (begun p).told)

  meets_each : (w : Wanted) → ((p : Rest s (drop at upload)) → Begins place (items at p) s (drop place upload) w) → Meets upload at s place w
  meets_each (Structure t) begun = comes (structure t place) (length (spelling t)) _ (behind t) refl begun
  meets_each (Field g) begun =
      comes (field_at upload place) (5 + value_len (drop (place + 5) upload) + 6) (value_end upload place + 6) s (omega arith)
      (λ p. rw (value_span, ← drop-drop 5 place upload, ← get_or-drop place upload 1 0, ← get_or-drop place upload 2 0, ← get_or-drop place upload 3 0) (begun p))
    where
      value_span : value_end upload place - (place + 5) ≡ value_len (drop (place + 5) upload)
      value_span = omega arith
  meets_each Nothing begun = begun

-- what the cursor finds behind the white space
pub meets : (upload : List ℕ) (at : ℕ) (s : State) → at ≤ length upload → is_lawful_from s (drop at upload) ≡ true → (place : ℕ) → place ≡ at + white_len (drop at upload) → Meets upload at s place (wanted s (closes (drop place upload)))
meets upload at s within lawful place e =
    meets_each upload at s lawful place (let l = black_within upload at within in omega arith) _
    (λ p. subst (λ k. BeginsAsWanted k (items at p) s (drop k upload)) (sym e)
    (subst (BeginsAsWanted (at + white_len (drop at upload)) (items at p) s) (drop-drop (white_len (drop at upload)) at upload) (begins at p)))

-- behind the declaration
pub declared : {upload : List ℕ} (l : Lawful upload) → drop (length declaration) upload ≡ l.rest
declared l = ap (drop (length declaration)) l.declared

pub declared_within : {upload : List ℕ} → Lawful upload → length declaration ≤ length upload
declared_within l = let e = ap length l.declared in let f = length-append declaration l.rest in omega arith

pub declared_lawful : {upload : List ℕ} → Lawful upload → is_lawful_from Start (drop (length declaration) upload) ≡ true
declared_lawful l = test_from_rest Start _ (subst (Rest Start) (sym (declared l)) l.path)
