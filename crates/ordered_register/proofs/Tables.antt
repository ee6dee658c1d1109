-- What an ordered table of entries holds, and what a change to the table changes of that. Assumes nothing.
use Rattle.std.proofs.Common.{◌≡◌, ℕ, ◌+◌, ◌-◌, Bool, true, false, cond, ◌||◌, ltb, length, Option, Some, None, Result, Ok, Err, is_some, refl, sym, ap, ◌∙◌, subst, arith}
use Rattle.std.proofs.lemmas.Bool.{cond-true, cond-false}
use Rattle.std.specs.Map.{lookup}
use Rattle.std.specs.Prelude.{OnOk}
use Rattle.ordered.specs.Tables.{Table, at, Changes, one_if}
use Rattle.ordered.specs.Tables as table
use Rattle.register.specs.Contents.{holding, has_room, put_answer, put_in, with_entry, without}
use Rattle.register.specs.Keys.{same_key, key_cmp}
use Rattle.register.specs.declared.entry.Entry.{Entry}
use Rattle.register.specs.declared.key.Key.{Key}
use Rattle.register.specs.declared.register.Full.{Full}
use Rattle.register.proofs.Sameness.{by_cmp}

-- a put to the table, as the answer of the register
abbrev pub answer_of : Result (Option Entry) (Key × Entry) → Result (Unit {0}) Full
answer_of (Ok x) = Ok tt
answer_of (Err x) = Err (record {})

module _ (t : Table Key Entry) (k : Key) where
  pub found : at key_cmp t k ≡ lookup (same_key k) t.entries
  found = λ i. lookup (by_cmp i k) t.entries

  counted : (stood : Bool) (n m : ℕ) → m + one_if stood ≡ n + 1 → m ≡ cond stood n (n + 1)
  counted true n m h = omega arith
  counted false n m h = omega arith

  gone : (stood : Bool) (n m : ℕ) → m + one_if stood ≡ n + 0 → m ≡ cond stood (n - 1) n
  gone true n m h = omega arith
  gone false n m h = omega arith

  module _ (u : Table Key Entry) where
    values : (w : Option Entry) → Changes key_cmp t k w u → (q : Key) → lookup (same_key q) u.entries ≡ cond (same_key k q) w (lookup (same_key q) t.entries)
    values w c q = subst (λ f. lookup (f q) u.entries ≡ cond (f k q) w (lookup (f q) t.entries)) by_cmp (c.values q)

    pub held_put : (e : Entry) → Changes key_cmp t k (Some e) u → holding u.entries u.most ≡ with_entry (holding t.entries t.most) k e
    held_put e c =
        let n = counted _ _ _ (subst (λ o. length u.entries + one_if (is_some o) ≡ length t.entries + 1) found c.count) in
        λ i. record { at = λ q. values (Some e) c q i; count = n i; most = c.most i }

    pub held_without : Changes key_cmp t k None u → holding u.entries u.most ≡ without (holding t.entries t.most) k
    held_without c =
        let n = gone _ _ _ (subst (λ o. length u.entries + one_if (is_some o) ≡ length t.entries + 0) found c.count) in
        λ i. record { at = λ q. values None c q i; count = n i; most = c.most i }

    room : table.has_room key_cmp t k ≡ has_room (holding t.entries t.most) k
    room = λ i. is_some (found i) || ltb (length t.entries) t.most

    -- what a put to the table is answered says whether there was room
    pub put : (e : Entry) (r : Result (Option Entry) (Key × Entry)) → r ≡ table.put_answer key_cmp t k e → u ≡ table.put_in key_cmp t k e → OnOk r (Changes key_cmp t k (Some e) u)
        → (answer_of r ≡ put_answer (holding t.entries t.most) k) × (holding u.entries u.most ≡ put_in (holding t.entries t.most) k e)
    put e r told after law = by_room (table.has_room key_cmp t k) refl
      where
        by_room : (b : Bool) → table.has_room key_cmp t k ≡ b → (answer_of r ≡ put_answer (holding t.entries t.most) k) × (holding u.entries u.most ≡ put_in (holding t.entries t.most) k e)
        by_room true h =
            let here : has_room (holding t.entries t.most) k ≡ true = sym room ∙ h in
            let ok : r ≡ Ok (at key_cmp t k) = told ∙ cond-true _ _ _ h in
            (ap answer_of ok ∙ sym (cond-true _ _ _ here), held_put e (subst (λ x. OnOk x (Changes key_cmp t k (Some e) u)) ok law) ∙ sym (cond-true _ _ _ here))
        by_room false h =
            let none : has_room (holding t.entries t.most) k ≡ false = sym room ∙ h in
            let stays : u ≡ t = after ∙ cond-false _ _ _ h in
            (ap answer_of (told ∙ cond-false _ _ _ h) ∙ sym (cond-false _ _ _ none), ap (λ (x : Table Key Entry). holding x.entries x.most) stays ∙ sym (cond-false _ _ _ none))
