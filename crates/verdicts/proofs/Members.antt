-- What stands in the lists of faults. Assumes nothing.
use Rattle.std.proofs.Common.{◌≡◌, ◌≢◌, ℕ, Bool, true, false, not, ◌&&◌, ◌||◌, ◌==◌, ◌⊎◌, inl, inr, ⊎_elim, List, [], ◌∷◌, ◌++◌, length, Option, Some, None, refl, sym, ap, subst, ◌∙◌, arith, rules}
use Rattle.std.proofs.lemmas.Bool.Decides.{nat_tests}
use Rattle.std.specs.Prelude.{is_none}
use Rattle.std.specs.List.{flat_map, list_any}
use Rattle.std.specs.Option.{option_map_or}
use Rattle.grammar.specs.Items.{value_place}
use Rattle.grammar.specs.declared.states.FieldId.{FieldId}
use Rattle.grammar.specs.declared.states.Segment.{Segment}
use Rattle.records.specs.Records.{Written, Part, Record, order_parts}
use Rattle.fields.specs.Fields.{id_of, segment_of, fields_of, field_at}
use Rattle.fields.specs.declared.field.Field.{Field}
use Rattle.fields.proofs.Naming.{named, only, stands, alone}
use Rattle.cells.specs.Filled.{is_written}
use Rattle.marks.specs.Ids.{same_id}
use Rattle.faults.specs.Along.{along, In}
use Rattle.faults.specs.declared.report.Fault.{Fault}
use Rattle.faults.specs.declared.rules.Rule.{Rule}
use Rattle.faults.specs.declared.rules.Rule.TheVariants.{Misplaced, Repeated}
use Rattle.faults.proofs.Along.{in_left, in_right, in_cases, in_at, in_given, given_has, along_has, in_along, flat_map_has, in_flat_map}
use Rattle.rules.specs.Views.{View}
use Rattle.rules.specs.Rules.{broken}
use Rattle.verdicts.specs.Sights.{Setting, view}
use Rattle.verdicts.specs.Faults.{again, strikes, lacks, place_of, fault, lacking, striking, part_faults, order_faults, head_faults, rule_faults}
use Rattle.verdicts.specs.Broken.{IsSegment, header, visit, order, IsWritten, BelongsTo, WrittenIn, BreaksAt, misplaced, repeated, absent, written, Breaks}

-- lists

either : (a b : Bool) → (a || b) ≡ true → (a ≡ true) ⊎ (b ≡ true)
either true b h = inl refl
either false b h = inr h

module _ {A : Type 0} where
  split_at : (y : A) (xs : List A) → In y xs → (front : List A) × (back : List A) × (xs ≡ front ++ (y ∷ back))
  split_at y [] h = absurd h
  split_at y (x ∷ xs) (inl e) = ([], xs, ap (λ z. z ∷ xs) (sym e))
  split_at y (x ∷ xs) (inr h) = let w = split_at y xs h in (x ∷ w.0, w.1, ap (λ zs. x ∷ zs) w.2)

  any_from : (p : A → Bool) (xs : List A) → list_any p xs ≡ true → (x : A) × In x xs × (p x ≡ true)
  any_from p [] h = cc
  any_from p (x ∷ xs) h =
      ⊎_elim (λ e. (x, inl refl, e)) (λ e. let w = any_from p xs e in (w.0, inr w.1, w.2)) (either (p x) (list_any p xs) h)

  any_has : (p : A → Bool) (xs : List A) (x : A) → In x xs → p x ≡ true → list_any p xs ≡ true
  any_has p [] x h e = absurd h
  any_has p (y ∷ xs) x (inl q) e = let d = subst (λ z. p z ≡ true) q e in grind (arith)
  any_has p (y ∷ xs) x (inr h) e = let r = any_has p xs x h e in grind (arith)

both : (a b : Bool) → (a && b) ≡ true → (a ≡ true) × (b ≡ true)
both true b h = (refl, h)
both false b h = cc

-- the fields of a segment are those that belong there

fields_have : (g : Segment) (f : Field) → segment_of f ≡ g → In f (fields_of g)
fields_have g f e = let w = stands f in subst (λ h. In f (fields_of h)) e (subst (In f) (sym w.2) (in_at w.0 f w.1))

of_fields : (g : Segment) (f : Field) → In f (fields_of g) → segment_of f ≡ g
of_fields g f h = let w = split_at f (fields_of g) h in alone g w.0 f w.1 w.2

named_at : (g : Segment) (i : FieldId) (f : Field) → segment_of f ≡ g → i ≡ id_of f → field_at g i ≡ Some f
named_at g i f e d = ap (λ h. field_at h i) (sym e) ∙ ap (field_at (segment_of f)) d ∙ named f

-- an ID that names no field of a segment

nowhere : (o : Option Field) (f : Field) → is_none o ≡ true → o ≡ Some f → ⊥
nowhere None f h e = cc
nowhere (Some k) f h e = cc

none_by : (g : Segment) (i : FieldId) (o : Option Field) → field_at g i ≡ o → ((f : Field) → id_of f ≡ i → ¬ (segment_of f ≡ g)) → is_none o ≡ true
none_by g i None e h = refl
none_by g i (Some f) e h = let w = only g i f e in absurd (h f (sym w.0) (sym w.1))

-- what is written

pub has_value : (w : Written) → is_written w ≡ true → IsWritten w
has_value w h = by w.value h
  where
    by : (xs : List ℕ) → not (length xs == 0) ≡ true → xs ≢ []
    by [] e q = cc
    by (x ∷ xs) e q = cc

pub value_has : (w : Written) → IsWritten w → is_written w ≡ true
value_has w h = by w.value h
  where
    by : (xs : List ℕ) → xs ≢ [] → not (length xs == 0) ≡ true
    by [] k = absurd (k refl)
    by (x ∷ xs) k = grind (arith, nat_tests)

same_from : (i j : FieldId) → same_id i j ≡ true → i ≡ j
same_from i j h = by (grind (arith, nat_tests)) (grind (arith, nat_tests)) (grind (arith, nat_tests))
  where
    by : i.letter ≡ j.letter → i.tens ≡ j.tens → i.ones ≡ j.ones → i ≡ j
    by a b c = search (rules, a, b, c)

same_has : (i : FieldId) → same_id i i ≡ true
same_has i = grind (arith, nat_tests)

again_from : (front : List Written) (w : Written) → again front w ≡ true → WrittenIn front w.id
again_from front w h =
    let e = any_from (λ e. is_written e && same_id e.id w.id) front h in
    let b = both _ _ e.2 in
    record { field = e.0; stands = e.1; written = has_value e.0 b.0; named = same_from _ _ b.1 }

again_has : (front : List Written) (w : Written) → WrittenIn front w.id → again front w ≡ true
again_has front w h =
    any_has (λ e. is_written e && same_id e.id w.id) front h.field h.stands
    (let a = value_has h.field h.written in let b = subst (λ i. same_id h.field.id i ≡ true) h.named (same_has h.field.id) in grind (arith))

-- the rules apart from 11 and 12 are about values

record AboutValues (r : Rule) : Type 0 where
  strikes_if : (v : View) (g : Segment) (b : Bool) (w : Written) → strikes r v g b w ≡ (is_written w && (not b && option_map_or (broken r v) (field_at g w.id) false))
  at_value : (w : Written) → place_of r w ≡ value_place w.place

abbrev Kind : Rule → Type 0
Kind r = (r ≡ Misplaced) ⊎ ((r ≡ Repeated) ⊎ AboutValues r)

kind : (r : Rule) → Kind r
kind Misplaced = inl refl
kind Repeated = inr (inl refl)
kind _ = inr (inr (record { strikes_if = λ v g b w. refl; at_value = λ w. refl }))

-- what a part breaks

module _ (v : View) (n k : ℕ) (p : Part) where
  -- w is written in the part behind front, and breaks the rule there
  abbrev Strike : Rule → Type 0
  Strike r = (front : List Written) (w : Written) (back : List Written) → p.fields ≡ front ++ (w ∷ back) → strikes r v p.segment (again front w) w ≡ true
      → BreaksAt v n k p (fault n k r w.id (place_of r w))

  strike_misplaced : Strike Misplaced
  strike_misplaced front w back e h =
      let a = both _ _ h in
      let b = both _ _ a.1 in
      misplaced front w back e (has_value w a.0) b.0 (λ f i q. nowhere _ f b.1 (named_at p.segment w.id f q (sym i)))

  strike_repeated : Strike Repeated
  strike_repeated front w back e h =
      let a = both _ _ h in
      let b = both _ _ a.1 in
      repeated front w back e (has_value w a.0) b.0 (again_from front w b.1)

  strike_written : (r : Rule) → AboutValues r → Strike r
  strike_written r l front w back e h =
      let a = both _ _ (sym (l.strikes_if v p.segment (again front w) w) ∙ h) in
      let b = both _ _ a.1 in
      by (field_at p.segment w.id) refl a.0 b.0 b.1
    where
      by : (o : Option Field) → field_at p.segment w.id ≡ o → is_written w ≡ true → not (again front w) ≡ true → option_map_or (broken r v) o false ≡ true
          → BreaksAt v n k p (fault n k r w.id (place_of r w))
      by None q c d m = cc
      by (Some f) q c d m =
          let s = only p.segment w.id f q in
          subst (λ a. BreaksAt v n k p (fault n k r w.id a)) (sym (l.at_value w))
          (written r f front w back e (has_value w c) s.0 (sym s.1) (λ u. let x = again_has front w u in cc) m)

  strike : (r : Rule) → Strike r
  strike r =
      ⊎_elim (λ e. subst Strike (sym e) strike_misplaced) (λ o. ⊎_elim (λ e. subst Strike (sym e) strike_repeated) (strike_written r) o) (kind r)

  absent_from : (r : Rule) (f : Field) → BelongsTo p f → lacks r v f ≡ true → BreaksAt v n k p (fault n k r (id_of f) p.tag)
  absent_from r f b h = let a = both _ _ h in absent r f b (no_value (v.value f) a.0) a.1
    where
      no_value : (xs : List ℕ) → not (not (length xs == 0)) ≡ true → xs ≡ []
      no_value [] h = refl
      no_value (x ∷ xs) h = grind (arith, nat_tests)

  pub part_from : (r : Rule) (y : Fault) → In y (part_faults r v n k p) → BreaksAt v n k p y × (y.rule ≡ r)
  part_from r y h = ⊎_elim lacked struck (in_cases y _ _ h)
    where
      lacked : In y (flat_map (lacking r v n k p.tag) (fields_of p.segment)) → BreaksAt v n k p y × (y.rule ≡ r)
      lacked m =
          let w = in_flat_map _ _ y m in
          let q = in_given (lacks r v w.at) _ y w.within in
          (subst (BreaksAt v n k p) (sym q.1) (absent_from r w.at (of_fields p.segment w.at w.stands) q.0), ap (λ f. f.rule) q.1)

      struck : In y (along (striking r v p.segment n k) [] p.fields) → BreaksAt v n k p y × (y.rule ≡ r)
      struck m =
          let w = in_along _ [] p.fields y m in
          let q = in_given (strikes r v p.segment (again w.front w.at) w.at) _ y w.within in
          (subst (BreaksAt v n k p) (sym q.1) (strike r w.front w.at w.back w.stands q.0), ap (λ f. f.rule) q.1)

  -- and what breaks a rule there is among its faults

  strike_has : (r : Rule) (front : List Written) (w : Written) (back : List Written) → p.fields ≡ front ++ (w ∷ back)
      → strikes r v p.segment (again front w) w ≡ true → In (fault n k r w.id (place_of r w)) (part_faults r v n k p)
  strike_has r front w back e h =
      in_right _ (flat_map (lacking r v n k p.tag) (fields_of p.segment)) (along (striking r v p.segment n k) [] p.fields)
      (subst (λ ws. In (fault n k r w.id (place_of r w)) (along (striking r v p.segment n k) [] ws)) (sym e) (along_has (striking r v p.segment n k) [] front w back _ (given_has _ _ h)))

  pub part_has : (y : Fault) → BreaksAt v n k p y → In y (part_faults y.rule v n k p)
  part_has y (misplaced front w back e h c d) =
      strike_has Misplaced front w back e
      (let a = value_has w h in let b = none_by p.segment w.id _ refl (λ f i q. d f i q) in grind (arith))
  part_has y (repeated front w back e h c d) = strike_has Repeated front w back e (let a = value_has w h in let b = again_has front w d in grind (arith))
  part_has y (absent r f b e h) =
      in_left _ (flat_map (lacking r v n k p.tag) (fields_of p.segment)) (along (striking r v p.segment n k) [] p.fields)
      (flat_map_has (lacking r v n k p.tag) (fields_of p.segment) f _ (fields_have p.segment f b) (given_has _ _ (lacks_by (v.value f) e h)))
    where
      lacks_by : (xs : List ℕ) → xs ≡ [] → broken r v f ≡ true → (not (not (length xs == 0)) && broken r v f) ≡ true
      lacks_by xs q m = grind (arith, nat_tests)
  part_has y (written r f front w back e h i b d m) = by (kind r)
    where
      by : Kind r → In (fault n k r w.id (value_place w.place)) (part_faults r v n k p)
      by (inl q) = absurd (let z = subst (λ r. broken r v f ≡ true) q m in cc)
      by (inr (inl q)) = absurd (let z = subst (λ r. broken r v f ≡ true) q m in cc)
      by (inr (inr l)) =
          subst (λ a. In (fault n k r w.id a) (part_faults r v n k p)) (l.at_value w)
          (strike_has r front w back e (l.strikes_if v p.segment (again front w) w ∙ values (again front w) refl))
        where
          values : (c : Bool) → again front w ≡ c → (is_written w && (not c && option_map_or (broken r v) (field_at p.segment w.id) false)) ≡ true
          values true c = absurd (d (again_from front w c))
          values false c = let a = value_has w h in let k = named_at p.segment w.id f b i in grind (arith)

-- what a record breaks of a rule

module _ (s : Setting) (n : ℕ) (x : Record) where
  breaks_at : (r : Rule) (y : Fault) {k : ℕ} {p : Part} {before : List Part} {seen : List Written} → IsSegment x k p before seen
      → In y (part_faults r (view s x before seen) n k p) → Breaks s n x y × (y.rule ≡ r)
  breaks_at r y {k} {p} {before} {seen} i m =
      let w = part_from (view s x before seen) n k p r y m in
      (record { segment = k; part = p; before = before; seen = seen; stands = i; breaks = w.0 }, w.1)

  pub rule_from : (r : Rule) (y : Fault) → In y (rule_faults s n x r) → Breaks s n x y × (y.rule ≡ r)
  rule_from r y h =
      ⊎_elim
      (λ m. ⊎_elim (breaks_at r y header) (breaks_at r y visit) (in_cases y _ _ m))
      (λ m. let w = in_along (order_faults s n x r) [] (order_parts x) y m in breaks_at r y (order w.front w.at w.back w.stands) w.within)
      (in_cases y _ _ h)

  pub rule_has : (y : Fault) → Breaks s n x y → In y (rule_faults s n x y.rule)
  rule_has y b = by b.stands (part_has (view s x b.before b.seen) n b.segment b.part y b.breaks)
    where
      by : {k : ℕ} {p : Part} {before : List Part} {seen : List Written} → IsSegment x k p before seen
          → In y (part_faults y.rule (view s x before seen) n k p) → In y (rule_faults s n x y.rule)
      by header m =
          in_left y (head_faults s n x y.rule) (along (order_faults s n x y.rule) [] (order_parts x))
          (in_left y (part_faults y.rule (view s x [] []) n 0 x.header) (part_faults y.rule (view s x [] []) n 1 x.visit) m)
      by visit m =
          in_left y (head_faults s n x y.rule) (along (order_faults s n x y.rule) [] (order_parts x))
          (in_right y (part_faults y.rule (view s x [] []) n 0 x.header) (part_faults y.rule (view s x [] []) n 1 x.visit) m)
      by (order before o after e) m =
          in_right y (head_faults s n x y.rule) (along (order_faults s n x y.rule) [] (order_parts x))
          (subst (λ os. In y (along (order_faults s n x y.rule) [] os)) (sym e) (along_has (order_faults s n x y.rule) [] before o after y m))
