-- What a report holds, one fault after another. Assumes nothing.
use Rattle.std.proofs.Common.{◌≡◌, ℕ, suc, ◌+◌, ◌-◌, ◌^◌, ◌<◌, min, List, [], ◌∷◌, ◌++◌, length, take, get_or, set, Option, Some, None, refl, sym, ap, subst, ◌∙◌, arith, length-append}
use Rattle.std.proofs.lemmas.List.{set_past, take_more, append-nil, append_assoc}
use Rattle.std.proofs.lemmas.List.Sums.{fold-append}
use Rattle.std.specs.Borrow.{MutBor}
use Rattle.std.specs.Option.{option_or}
use Rattle.faults.specs.Along.{along}
use Rattle.faults.specs.Reports.{blank, begun, told_one, told, overwritten, verdict_of, Told, Holds}
use Rattle.faults.specs.declared.report.Fault.{Fault}
use Rattle.faults.specs.declared.report.Report.{Report}
use Rattle.faults.specs.declared.rules.Rule.{Rule}
use Rattle.faults.proofs.Along.{along_push}

module _ {A : Type 0} where
  -- nothing in place of the first rows
  pub overwritten_none : (rows : List A) → overwritten rows [] ≡ rows
  overwritten_none [] = refl
  overwritten_none (x ∷ rows) = refl

  -- no rows
  overwritten_nil : (xs : List A) → overwritten [] xs ≡ []
  overwritten_nil [] = refl
  overwritten_nil (x ∷ xs) = refl

  -- one more, in the row behind
  pub overwritten_more : (rows xs : List A) (x : A) → set (overwritten rows xs) (length xs) x ≡ overwritten rows (xs ++ x ∷ [])
  overwritten_more [] xs x = rw (overwritten_nil xs, overwritten_nil (xs ++ x ∷ [])) refl
  overwritten_more (y ∷ rows) [] x = ap (λ l. x ∷ l) (sym (overwritten_none rows))
  overwritten_more (y ∷ rows) (z ∷ xs) x = ap (λ l. z ∷ l) (overwritten_more rows xs x)

  pub length-overwritten : (rows xs : List A) → length (overwritten rows xs) ≡ length rows
  length-overwritten [] xs = ap length (overwritten_nil xs)
  length-overwritten (y ∷ rows) [] = refl
  length-overwritten (y ∷ rows) (x ∷ xs) = ap suc (length-overwritten rows xs)

-- a fault for which there is no count more finds no row either
set_counted : (rows : List Fault) (n : ℕ) (f : Fault) → length rows < 2 ^ 64 → set rows (min n (2 ^ 64 - 1)) f ≡ set rows n f
set_counted rows n f h = grind (arith, set_past)

module _ {rows : MutBor (List Fault)} where
  holds_none : Holds rows [] (blank rows)
  holds_none = record { lent = ap (λ l. record rows { now = l }) (sym (overwritten_none rows.now)); count = refl }

  holds_one : {fs : List Fault} {r : Report} (f : Fault) → length rows.now < 2 ^ 64 → Holds rows fs r → Holds rows (fs ++ f ∷ []) (told_one r f)
  holds_one {fs} {r} f few h =
      let e = set_counted (overwritten rows.now fs) (length fs) f (omega (arith, length-overwritten rows.now fs)) ∙ overwritten_more rows.now fs f in
      record {
        lent = rw (h.lent, h.count) (ap (λ l. record rows { now = l }) e);
        count = omega (arith, h.count, length-append fs (f ∷ []));
      }

  holds_told : (fs gs : List Fault) {r : Report} → length rows.now < 2 ^ 64 → Holds rows fs r → Holds rows (fs ++ gs) (told r gs)
  holds_told fs [] {r} few h = subst (λ l. Holds rows l r) (sym (append-nil fs)) h
  holds_told fs (g ∷ gs) {r} few h = subst (λ l. Holds rows l (told (told_one r g) gs)) (append_assoc fs (g ∷ []) gs) (holds_told (fs ++ g ∷ []) gs few (holds_one g few h))

-- one element more in a loop: behind those that it has gone through, and at an index
pub told_push : {A : Type 0} (start : Report) {r q : Report} (g : List A → A → List Fault) (xs : List A) (x : A)
    → r ≡ told start (along g [] xs) → q ≡ told r (g xs x) → q ≡ told start (along g [] (xs ++ x ∷ []))
told_push start g xs x e f =
    rw (along_push g xs x) (f ∙ ap (λ w. told w (g xs x)) e ∙ sym (fold-append told_one start (along g [] xs) (g xs x)))

pub told_take : {A : Type 0} (start : Report) {r q : Report} (g : List A → A → List Fault) (xs : List A) (i : ℕ) (d : A) → i < length xs
    → r ≡ told start (along g [] (take i xs)) → q ≡ told r (g (take i xs) (get_or xs i d)) → q ≡ told start (along g [] (take (i + 1) xs))
told_take start g xs i d h e f = rw (take_more xs i d h) (told_push start g (take i xs) (get_or xs i d) e f)

-- that a record begins changes nothing of what is told but the verdict
begun-told : (fs : List Fault) (r : Report) → begun (told (begun r) fs) ≡ begun (told r fs)
begun-told [] r = refl
begun-told (f ∷ fs) r = sym (begun-told fs (told_one (begun r) f)) ∙ begun-told fs (told_one r f)

-- one record more
pub told_more : {start r q : Report} {fs : List Fault} (gs : List Fault) → Told start fs r → q ≡ told (begun r) gs → Told start (fs ++ gs) q
told_more {start} {r} {q} {fs} gs t e = record {
  but_verdict =
      ap begun e
      ∙ ap (λ w. begun (told w gs)) t.but_verdict
      ∙ begun-told gs (told start fs)
      ∙ ap begun (sym (fold-append told_one start fs gs));
}

-- what is told into lent rows
pub holds : {start r : Report} {fs : List Fault} → length start.rows.now < 2 ^ 64 → start ≡ blank start.rows → Told start fs r → Holds start.rows fs r
holds {start} {r} {fs} few new t =
    let h = holds_told [] fs few holds_none in
    let e = t.but_verdict ∙ ap (λ w. begun (told w fs)) new in
    record { lent = ap (λ w. w.rows) e ∙ h.lent; count = ap (λ w. w.count) e ∙ h.count }

or_none : (v : Option Rule) → v ≡ option_or v None
or_none None = refl
or_none (Some x) = refl

or_kept : (v w : Option Rule) (x : Rule) → option_or (option_or v (Some x)) w ≡ option_or v (Some x)
or_kept None w x = refl
or_kept (Some y) w x = refl

-- the first fault of all decides
pub verdict-told : (fs : List Fault) (r : Report) → (told r fs).verdict ≡ option_or r.verdict (verdict_of fs)
verdict-told [] r = or_none r.verdict
verdict-told (f ∷ fs) r = verdict-told fs (told_one r f) ∙ or_kept r.verdict (verdict_of fs) f.rule

none_left : (v : Option Rule) (x : Rule) → option_or v (Some x) ≡ None → ⊥
none_left None x e = cc
none_left (Some y) x e = cc

-- so where there is no verdict, nothing was told
pub nothing_told : (fs : List Fault) (r : Report) → (told r fs).verdict ≡ None → fs ≡ []
nothing_told [] r e = refl
nothing_told (f ∷ fs) r e = absurd (none_left r.verdict f.rule (sym (verdict-told (f ∷ fs) r) ∙ e))
