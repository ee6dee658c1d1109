-- The faults of a well-formed record rise. Assumes nothing.
use Rattle.std.proofs.Common.{◌≡◌, ℕ, ◌+◌, ◌<◌, ◌≤◌, Bool, true, ◌&&◌, inl, inr, ⊎_elim, List, [], ◌∷◌, refl, sym, ap, subst, ◌∙◌, arith}
use Rattle.std.proofs.lemmas.Bool.Decides.{nat_tests}
use Rattle.std.specs.Prelude.{map, nat_lt}
use Rattle.std.specs.List.{flat_map, AllByRecursion}
use Rattle.grammar.specs.declared.states.FieldId.{FieldId}
use Rattle.grammar.specs.declared.states.Segment.{Segment}
use Rattle.grammar.specs.declared.states.Segment.TheVariants.{Header, Visit, Order}
use Rattle.records.specs.Records.{Written, Part, Record, unordered, or_unordered, order_parts}
use Rattle.records.specs.Orderly.{fields_rise, part_rises, parts_rise, Orderly}
use Rattle.fields.specs.Fields.{id_of, fields_of}
use Rattle.faults.specs.Along.{along, In, RisesBy}
use Rattle.faults.specs.Order.{id_number, Before, Rises}
use Rattle.faults.specs.Rules.{number_of, rules_of}
use Rattle.faults.specs.declared.report.Fault.{Fault}
use Rattle.faults.specs.declared.rules.Rule.{Rule}
use Rattle.faults.specs.declared.rules.Rule.TheVariants.{Misplaced, Repeated}
use Rattle.faults.specs.declared.rules.Tier.{Tier}
use Rattle.faults.specs.declared.rules.Tier.TheVariants.{First, Second, Third}
use Rattle.faults.proofs.Along.{all_from_in, in_at, in_cases, in_given, in_along, in_flat_map}
use Rattle.faults.proofs.Order.{rises_append, rises_given, rises_along, rises_flat_map}
use Rattle.rules.specs.Views.{View}
use Rattle.verdicts.specs.Sights.{Setting, view}
use Rattle.verdicts.specs.Faults.{again, strikes, lacks, place_of, fault, lacking, striking, part_faults, order_faults, head_faults, rule_faults}

-- lists

abbrev rising : List ℕ → Bool
rising (a ∷ b ∷ xs) = nat_lt a b && rising (b ∷ xs)
rising _ = true

module _ {A : Type 0} where
  all_above : (f : A → ℕ) (a : ℕ) (x : A) (xs : List A) → a < f x → AllByRecursion (λ y. f x < f y) xs → AllByRecursion (λ y. a < f y) xs
  all_above f a x [] h k = tt
  all_above f a x (y ∷ xs) h k = (omega (arith, k.0), all_above f a x xs h k.1)

  pub rises_near : (f : A → ℕ) (xs : List A) → rising (map f xs) ≡ true → RisesBy (λ x y. f x < f y) xs
  rises_near f [] h = tt
  rises_near f (x ∷ []) h = (tt, tt)
  rises_near f (x ∷ y ∷ xs) h =
      let near : f x < f y = grind (arith, nat_tests) in
      let r = rises_near f (y ∷ xs) (grind (arith, nat_tests)) in
      ((near, all_above f (f x) y xs near r.0), r)

pub rules_rise : (t : Tier) → RisesBy (λ q r. number_of q < number_of r) (rules_of t)
rules_rise First = rises_near number_of (rules_of First) refl
rules_rise Second = rises_near number_of (rules_of Second) refl
rules_rise Third = rises_near number_of (rules_of Third) refl

names_rise : (g : Segment) → RisesBy (λ f h. id_number (id_of f) < id_number (id_of h)) (fields_of g)
names_rise Header = rises_near (λ f. id_number (id_of f)) (fields_of Header) refl
names_rise Visit = rises_near (λ f. id_number (id_of f)) (fields_of Visit) refl
names_rise Order = rises_near (λ f. id_number (id_of f)) (fields_of Order) refl

-- where the fields of a part stand: from the place a on, up to b

abbrev Apart : Written → Written → Type 0
Apart w u = w.place + 6 ≤ u.place

record FieldsSpan (a : ℕ) (ws : List Written) (b : ℕ) : Type 0 where
  onward : a ≤ b
  rises : RisesBy Apart ws
  low : (w : Written) → In w ws → a ≤ w.place
  high : (w : Written) → In w ws → w.place + 6 ≤ b

abbrev PartSpan : Part → ℕ → Type 0
PartSpan p b = FieldsSpan (p.tag + 1) p.fields b

record Follows (p q : Part) : Type 0 where
  end : ℕ
  span : PartSpan p end
  then : end ≤ q.tag
  last : ℕ
  next : PartSpan q last

fields_span : (a : ℕ) (ws : List Written) (k : ℕ → Type 0) → fields_rise a ws k → (b : ℕ) × FieldsSpan a ws b × k b
fields_span a [] k h = (a, record { onward = omega arith; rises = tt; low = λ w m. absurd m; high = λ w m. absurd m }, h)
fields_span a (w ∷ ws) k h =
    let r = fields_span (w.place + 6) ws k h.1 in (
      r.0,
      record {
        onward = omega (arith, h.0, r.1.onward);
        rises = (all_from_in (Apart w) ws r.1.low, r.1.rises);
        low = λ u m. ⊎_elim (λ e. omega (arith, h.0, ap (λ z. z.place) e)) (λ i. omega (arith, h.0, r.1.low u i)) m;
        high = λ u m. ⊎_elim (λ e. omega (arith, r.1.onward, ap (λ z. z.place) e)) (r.1.high u) m;
      },
      r.2,
    )

part_span : (a : ℕ) (p : Part) (k : ℕ → Type 0) → part_rises a p k → (a ≤ p.tag) × (b : ℕ) × PartSpan p b × k b
part_span a p k h = let r = fields_span (p.tag + 1) p.fields k h.1 in (h.0, r.0, r.1, r.2)

-- a few parts, all behind a
record PartsSpan (a : ℕ) (ps : List Part) : Type 0 where
  rises : RisesBy Follows ps
  low : (p : Part) → In p ps → a ≤ p.tag
  each : (p : Part) → In p ps → (b : ℕ) × PartSpan p b

parts_span : (a : ℕ) (ps : List Part) (k : ℕ → Type 0) → parts_rise a ps k → PartsSpan a ps × (b : ℕ) × (a ≤ b) × k b
parts_span a [] k h = (record { rises = tt; low = λ p m. absurd m; each = λ p m. absurd m }, a, omega arith, h)
parts_span a (p ∷ ps) k h =
    let q = part_span a p (λ b. parts_rise b ps k) h in
    let r = parts_span q.1 ps k q.3 in (
      record {
        rises = (all_from_in (Follows p) ps (λ o m. let e = r.0.each o m in record { end = q.1; span = q.2; then = r.0.low o m; last = e.0; next = e.1 }), r.0.rises);
        low = λ o m. ⊎_elim (λ e. omega (arith, q.0, ap (λ z. z.tag) e)) (λ i. omega (arith, q.0, q.2.onward, r.0.low o i)) m;
        each = λ o m. ⊎_elim (λ e. (q.1, subst (λ z. PartSpan z q.1) (sym e) q.2)) (r.0.each o) m;
      },
      r.1,
      omega (arith, q.0, q.2.onward, r.2),
      r.3,
    )

orders_span : (a c : ℕ) (ps : List Part) → parts_rise a ps (λ e. e ≤ c) → PartsSpan a (or_unordered c ps)
orders_span a c [] h = (parts_span a (unordered c ∷ []) (λ e. e ≤ c + 1) (h, omega arith)).0
orders_span a c (p ∷ ps) h = (parts_span a (p ∷ ps) (λ e. e ≤ c) h).0

-- the faults of one rule

placed : (r : Rule) (w : Written) → (w.place ≤ place_of r w) × (place_of r w ≤ w.place + 5)
placed Misplaced w = (omega arith, omega arith)
placed Repeated w = (omega arith, omega arith)
placed _ w = (omega arith, omega arith)

before_at : {x y a b : Fault} → x ≡ a → y ≡ b → Before a b → Before x y
before_at {x} {y} {a} {b} p q h = subst (λ z. Before z y) (sym p) (subst (Before a) (sym q) h)

module _ (n : ℕ) (r : Rule) where
  -- a fault of the rule from the place a on, before b
  record Within (a b : ℕ) (y : Fault) : Type 0 where
    numbered : y.«record» ≡ n
    rule : y.rule ≡ r
    low : a ≤ y.place
    high : y.place < b

  within : {a b : ℕ} {y : Fault} (k : ℕ) (i : FieldId) (c : ℕ) → y ≡ fault n k r i c → a ≤ c → c < b → Within a b y
  within k i c e l h = record {
    numbered = ap (λ f. f.«record») e;
    rule = ap (λ f. f.rule) e;
    low = omega (arith, l, ap (λ f. f.place) e);
    high = omega (arith, h, ap (λ f. f.place) e);
  }

  before : {a b c d : ℕ} (x y : Fault) → Within a b x → Within c d y → b ≤ c → Before x y
  before x y p q h =
      inr (p.numbered ∙ sym q.numbered, inr (ap number_of (p.rule ∙ sym q.rule), inl (omega (arith, p.high, q.low, h))))

  module _ (v : View) (k : ℕ) (p : Part) (b : ℕ) (span : PartSpan p b) where
    lacked_within : (y : Fault) → In y (flat_map (lacking r v n k p.tag) (fields_of p.segment)) → Within p.tag (p.tag + 1) y
    lacked_within y m =
        let w = in_flat_map (lacking r v n k p.tag) (fields_of p.segment) y m in
        within k (id_of w.at) p.tag (in_given (lacks r v w.at) _ y w.within).1 (omega arith) (omega arith)

    struck_within : (y : Fault) → In y (along (striking r v p.segment n k) [] p.fields) → Within (p.tag + 1) b y
    struck_within y m =
        let w = in_along (striking r v p.segment n k) [] p.fields y m in
        let i = subst (In w.at) (sym w.stands) (in_at w.front w.at w.back) in
        let q = placed r w.at in
        within k w.at.id (place_of r w.at) (in_given (strikes r v p.segment (again w.front w.at) w.at) _ y w.within).1 (omega (arith, q.0, span.low w.at i)) (omega (arith, q.1, span.high w.at i))

    part_within : (y : Fault) → In y (part_faults r v n k p) → Within p.tag b y
    part_within y m =
        ⊎_elim
        (λ i. let w = lacked_within y i in record { numbered = w.numbered; rule = w.rule; low = w.low; high = omega (arith, w.high, span.onward) })
        (λ i. let w = struck_within y i in record { numbered = w.numbered; rule = w.rule; low = omega (arith, w.low); high = w.high })
        (in_cases y _ _ m)

    part_faults_rise : Rises (part_faults r v n k p)
    part_faults_rise =
        rises_append Before (flat_map (lacking r v n k p.tag) (fields_of p.segment)) (along (striking r v p.segment n k) [] p.fields)
        (rises_flat_map Before _ (lacking r v n k p.tag) (fields_of p.segment) (names_rise p.segment)
        (λ f _. rises_given Before (lacks r v f) (fault n k r (id_of f) p.tag))
        (λ f h x y l i j.
        before_at (in_given (lacks r v f) _ x i).1 (in_given (lacks r v h) _ y j).1 (inr (refl, inr (refl, inr (refl, l))))))
        (rises_along Before Apart (striking r v p.segment n k) [] p.fields span.rises
        (λ front w _. rises_given Before (strikes r v p.segment (again front w) w) (fault n k r w.id (place_of r w)))
        (λ front later w u x y l i j.
        before_at (in_given (strikes r v p.segment (again front w) w) _ x i).1 (in_given (strikes r v p.segment (again later u) u) _ y j).1
        (inr (refl, inr (refl, inl (omega (arith, (placed r w).1, (placed r u).0, l)))))))
        (λ x y i j. before x y (lacked_within x i) (struck_within y j) (omega arith))

module _ (s : Setting) (n : ℕ) (x : Record) (o : Orderly x) where
  pub rule_faults_rise : (r : Rule) → Rises (rule_faults s n x r)
  rule_faults_rise r =
      let h = part_span 0 x.header (λ a. part_rises a x.visit (λ b. parts_rise b x.orders (λ e. e ≤ x.close))) o in
      let m = part_span h.1 x.visit (λ b. parts_rise b x.orders (λ e. e ≤ x.close)) h.3 in
      let os = orders_span m.1 x.close x.orders m.3 in
      let v = view s x [] [] in
      let at_header = part_within n r v 0 x.header h.1 h.2 in
      let at_visit = part_within n r v 1 x.visit m.1 m.2 in
      rises_append Before (head_faults s n x r) (along (order_faults s n x r) [] (order_parts x))
      (rises_append Before (part_faults r v n 0 x.header) (part_faults r v n 1 x.visit)
      (part_faults_rise n r v 0 x.header h.1 h.2)
      (part_faults_rise n r v 1 x.visit m.1 m.2)
      (λ y z i j. before n r y z (at_header y i) (at_visit z j) m.0))
      (rises_along Before Follows (order_faults s n x r) [] (order_parts x) os.rises
      (λ front p i. part_faults_rise n r (view s x front p.fields) _ p (os.each p i).0 (os.each p i).1)
      (λ front later p q y z f i j.
      before n r y z
      (part_within n r (view s x front p.fields) _ p f.end f.span y i)
      (part_within n r (view s x later q.fields) _ q f.last f.next z j)
      f.then))
      (λ y z u j.
      let w = in_along (order_faults s n x r) [] (order_parts x) z j in
      let i = subst (In w.at) (sym w.stands) (in_at w.front w.at w.back) in
      let e = os.each w.at i in
      let q = part_within n r (view s x w.front w.at.fields) _ w.at e.0 e.1 z w.within in
      ⊎_elim
      (λ c. before n r y z (at_header y c) q (omega (arith, m.0, m.2.onward, os.low w.at i)))
      (λ c. before n r y z (at_visit y c) q (os.low w.at i))
      (in_cases y _ _ u))
