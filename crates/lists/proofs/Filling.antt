-- Putting rows that rise into a table, one after another. Assumes nothing.
use Rattle.std.proofs.Common.{◌≡◌, ℕ, suc, zero, ◌+◌, ◌<◌, ◌≤◌, Bool, true, false, cond, ◌&&◌, ◌||◌, ◌==◌, nat_lt, List, [], ◌∷◌, take, get_or, Some, Ordering, Less, Equal, Greater, length, sym, refl, ap, ◌∙◌, subst, ⊎_elim, arith, add-one}
use Rattle.std.proofs.lemmas.Bool.{cases_lt}
use Rattle.std.proofs.lemmas.Bool.Decides.{nat_tests}
use Rattle.std.proofs.lemmas.Cmp.{on_total, tied_itself}
use Rattle.std.proofs.lemmas.List.Folds.{list_any_more}
use Rattle.std.proofs.lemmas.Slice.Eq.{bytes_eq-Decides}
use Rattle.std.specs.BTreeMap.{insert_entry}
use Rattle.std.specs.Cmp.{IsTotalOrder}
use Rattle.std.specs.Map.{lookup}
use Rattle.std.specs.Option.{option_map}
use Rattle.std.specs.Ordering.{is_eq, match_ordering}
use Rattle.std.specs.Str.{bytes_eq}
use Rattle.calendar.specs.Calendar.{Date}
use Rattle.ordered.specs.Tables.{Table, has_room, put_in}
use Rattle.lists.proofs.Wording.{listed_total}
use Rattle.lists.specs.Order.{listed_cmp}
use Rattle.lists.proofs.Looking.{same_test}
use Rattle.lists.proofs.Rising.{lawful_at, rises_at}
use Rattle.lists.specs.Codes.{code_cmp}
use Rattle.lists.specs.Entries.{dates_of, IsEntry}
use Rattle.lists.specs.Making.{is_code}
use Rattle.lists.specs.Rows.{row_cmp, is_lawful, span_of, row_says, says, NoneIsBad}
use Rattle.lists.specs.Spans.{has_day}
use Rattle.lists.specs.declared.listed_code.ListedCode.{ListedCode}
use Rattle.lists.specs.declared.row.Row.{Row}
use Rattle.lists.specs.declared.span.Span.{Span}

-- ---- a look-up after an insert

-- p passes k, or what is equal to k, only with what is equal to k
module _ {K V : Type 0} (cmp : K → K → Ordering) (p : K → Bool) (k : K) (v : V)
    (one : (j : K) → p k ≡ true → p j ≡ is_eq (cmp k j)) (alike : (j : K) → cmp k j ≡ Equal → p j ≡ p k) where
  step : (e : K × V) (es : List (K × V)) (o : Ordering) → o ≡ cmp k e.0
      → lookup p (insert_entry cmp es k v) ≡ cond (p k) (Some v) (lookup p es)
      → lookup p (match_ordering o ((k, v) ∷ e ∷ es) ((e.0, v) ∷ es) (e ∷ insert_entry cmp es k v)) ≡ cond (p k) (Some v) (cond (p e.0) (Some e.1) (lookup p es))
  step e es Less h more = refl
  step e es Equal h more = let a = alike e.0 (sym h) in grind (arith, a)
  step e es Greater h more = let a = one e.0 in let b : is_eq (cmp k e.0) ≡ false = ap is_eq (sym h) in grind (arith, a, b, more)

  pub lookup-insert_entry : (es : List (K × V)) → lookup p (insert_entry cmp es k v) ≡ cond (p k) (Some v) (lookup p es)
  lookup-insert_entry [] = refl
  lookup-insert_entry (e ∷ es) = step e es _ refl (lookup-insert_entry es)

length-insert_entry : {K V : Type 0} (cmp : K → K → Ordering) (k : K) (v : V) (es : List (K × V)) → length (insert_entry cmp es k v) ≤ length es + 1
length-insert_entry cmp k v [] = omega arith
length-insert_entry cmp k v (e ∷ es) = one (cmp k e.0) (length-insert_entry cmp k v es)
  where
    one : (o : Ordering) → length (insert_entry cmp es k v) ≤ length es + 1
        → length (match_ordering o ((k, v) ∷ e ∷ es) ((e.0, v) ∷ es) (e ∷ insert_entry cmp es k v)) ≤ length (e ∷ es) + 1
    one Less h = omega arith
    one Equal h = omega arith
    one Greater h = omega arith

-- ---- rows that rise

row_total : IsTotalOrder row_cmp
row_total = on_total (λ (r : Row). (r.list, r.code.now)) listed_total

module _ (rs : List Row) (good : NoneIsBad rs) (d : Row) where
  rises : (j i : ℕ) → j < i → i < length rs → row_cmp (get_or rs j d) (get_or rs i d) ≡ Less
  rises j zero h k = absurd (omega arith)
  rises j (suc i) h k = ⊎_elim (λ lt. far (rises j i lt (omega arith))) near (cases_lt j i)
    where
      next : row_cmp (get_or rs i d) (get_or rs (suc i) d) ≡ Less
      next = rises_at rs i (suc i) d (sym (add-one i)) k (good (suc i) k)

      far : row_cmp (get_or rs j d) (get_or rs i d) ≡ Less → row_cmp (get_or rs j d) (get_or rs (suc i) d) ≡ Less
      far below = row_total.trans (get_or rs j d) (get_or rs i d) (get_or rs (suc i) d) below next

      near : i ≤ j → row_cmp (get_or rs j d) (get_or rs (suc i) d) ≡ Less
      near le = let e : i ≡ j = omega arith in subst (λ x. row_cmp (get_or rs x d) (get_or rs (suc i) d) ≡ Less) e next

-- ---- one list and one code

less_is_no_tie : ¬ (Less ≡ Equal)
less_is_no_tie h = cc

module _ (list : ℕ) (code : List ℕ) where
  abbrev is_of : ℕ → List ℕ → Bool
  is_of n bs = list == n && bytes_eq code bs

  list_is : (n : ℕ) (bs : List ℕ) → is_of n bs ≡ true → list ≡ n
  list_is n bs h = grind (arith, nat_tests)

  code_is : (n : ℕ) (bs : List ℕ) → is_of n bs ≡ true → code ≡ bs
  code_is n bs h = grind (arith, bytes_eq-Decides code bs)

  -- a row that another rises above has another list or another code
  apart : (r s : Row) → row_cmp r s ≡ Less → is_of s.list s.code.now ≡ true → is_of r.list r.code.now ≡ false
  apart r s h k = not_both _ refl
    where
      tied : r.list ≡ s.list → r.code.now ≡ s.code.now → row_cmp r s ≡ Equal
      tied p q = (λ x. listed_cmp (r.list, r.code.now) (sym p x, sym q x)) ∙ tied_itself row_total r

      not_both : (b : Bool) → is_of r.list r.code.now ≡ b → b ≡ false
      not_both false e = refl
      not_both true e = absurd (less_is_no_tie (sym h ∙ tied (sym (list_is _ _ e) ∙ list_is _ _ k) (sym (code_is _ _ e) ∙ code_is _ _ k)))

  -- the test for k is the test for the list and the code, if k has these
  one : (k j : ListedCode) → is_code list code k ≡ true → is_code list code j ≡ is_eq (code_cmp k j)
  one k j h = (λ x. list_is k.list k.code h x == j.list && bytes_eq (code_is k.list k.code h x) j.code) ∙ sym (same_test k j)

alike : (list : ℕ) (code : List ℕ) (k j : ListedCode) → code_cmp k j ≡ Equal → is_code list code j ≡ is_code list code k
alike list code k j h =
    let same : is_code k.list k.code j ≡ true = sym (same_test k j) ∙ ap is_eq h in
    sym (λ x. is_of list code (list_is k.list k.code j.list j.code same x) (code_is k.list k.code j.list j.code same x))

both_false : (a b : Bool) → a ≡ false → b ≡ false → (a || b) ≡ false
both_false a b e f = λ x. e x || f x

or_true : (a b : Bool) → b ≡ true → (a || b) ≡ true
or_true true b h = refl
or_true false b h = h

or_right : (a b : Bool) → b ≡ false → (a || b) ≡ a
or_right true b h = refl
or_right false b h = h

fits : (m n : ℕ) → m < n → nat_lt m n ≡ true
fits m n h = grind (arith, nat_tests)

-- ---- the table

-- the table says what the first i rows say, and has no more entries than those
pub record IsFilled (rs : List Row) (i : ℕ) (t : Table ListedCode Span) : Type 0 where
  pub says : (list : ℕ) (code : List ℕ) (date : Date)
      → has_day date (option_map dates_of (lookup (is_code list code) t.entries)) ≡ says (take i rs) list code date
  pub few : length t.entries ≤ i
  pub most : t.most ≡ length rs

module _ (rs : List Row) (good : NoneIsBad rs) (i : ℕ) (d : Row) (within : i < length rs) where
  -- no row before the row at i has its list and code
  none_before : (list : ℕ) (code : List ℕ) (date : Date) → is_of list code (get_or rs i d).list (get_or rs i d).code.now ≡ true
      → (n : ℕ) → n ≤ i → says (take n rs) list code date ≡ false
  none_before list code date k zero h = refl
  none_before list code date k (suc n) h =
      let far : n < length rs = omega arith in
      let below = rises rs good d n i h within in
      let here : row_says (get_or rs n d) list code date ≡ false =
      (λ x. apart list code (get_or rs n d) (get_or rs i d) below k x && has_day date (span_of (get_or rs n d))) in
      let more = list_any_more (λ r. row_says r list code date) rs n d far in
      subst (λ x. says (take x rs) list code date ≡ false) (add-one n) (more ∙ both_false _ _ (none_before list code date k n (omega arith)) here)

  module _ (k : ListedCode) (v : Span) (entry : IsEntry (get_or rs i d) (k, v)) where
    -- what the row says, by its entry
    said : (list : ℕ) (code : List ℕ) (date : Date)
        → row_says (get_or rs i d) list code date ≡ (is_code list code k && has_day date (Some (dates_of v)))
    said list code date = λ x. is_of list code (sym entry.list x) (sym entry.code x) && has_day date (entry.span x)

    module _ (t : Table ListedCode Span) (filled : IsFilled rs i t) where
      room : has_room code_cmp t k ≡ true
      room = let few = filled.few in let most = filled.most in or_true _ _ (fits (length t.entries) t.most (omega arith))

      says_more : (list : ℕ) (code : List ℕ) (date : Date) → (b : Bool) → is_code list code k ≡ b
          → has_day date (option_map dates_of (cond b (Some v) (lookup (is_code list code) t.entries)))
          ≡ (says (take i rs) list code date || row_says (get_or rs i d) list code date)
      says_more list code date true e =
          let none = none_before list code date (sym (λ x. is_of list code (entry.list x) (entry.code x)) ∙ e) i (omega arith) in
          sym ((λ x. none x || (said list code date ∙ (λ y. e y && has_day date (Some (dates_of v)))) x))
      says_more list code date false e =
          filled.says list code date ∙ sym (or_right _ _ (said list code date ∙ (λ y. e y && has_day date (Some (dates_of v)))))

      pub filled_on : IsFilled rs (i + 1) (put_in code_cmp t k v)
      filled_on = subst (λ b. IsFilled rs (i + 1) (cond b (record { entries = insert_entry code_cmp t.entries k v; most = t.most }) t)) (sym room) (record {
        says = λ list code date.
            ap (λ o. has_day date (option_map dates_of o)) (lookup-insert_entry code_cmp (is_code list code) k v (one list code k) (alike list code k) t.entries)
            ∙ says_more list code date _ refl
            ∙ sym (list_any_more (λ r. row_says r list code date) rs i d within);
        few = let few = filled.few in let more = length-insert_entry code_cmp k v t.entries in omega arith;
        most = filled.most;
      })

  pub is_read : is_lawful (get_or rs i d) ≡ true
  is_read = lawful_at rs i d within _ refl (good i within)
