-- What the faults of a record are. Assumes nothing.
use Rattle.std.proofs.Common.{◌≡◌, true, false, ℕ, ◌-◌, ◌<◌, ◌≤◌, ◌⊎◌, inl, inr, ⊎_elim, List, [], ◌∷◌, ◌++◌, Some, None, refl, sym, ap, subst, ◌∙◌, arith}
use Rattle.std.specs.List.{flat_map, slice_get}
use Rattle.records.specs.Records.{Part, Record}
use Rattle.records.specs.Orderly.{Orderly}
use Rattle.faults.specs.Along.{In, RisesBy}
use Rattle.faults.specs.Order.{Before, Rises}
use Rattle.faults.specs.Reports.{verdict_of}
use Rattle.faults.specs.Rules.{number_of, rules_of, tiers}
use Rattle.faults.specs.declared.report.Fault.{Fault}
use Rattle.faults.specs.declared.rules.Rule.{Rule}
use Rattle.faults.specs.declared.rules.Rule.TheVariants.{Unmatched, Late, Dispensed, Prescription, Uncancellable, NoRoom}
use Rattle.faults.specs.declared.rules.Tier.{Tier}
use Rattle.faults.proofs.Along.{in_got, all_from_in, in_all, in_cases, in_right, flat_map_has, in_flat_map}
use Rattle.faults.proofs.Order.{rises_flat_map}
use Rattle.fields.specs.declared.field.Field.{Field}
use Rattle.rules.specs.Views.{View}
use Rattle.rules.specs.Rules.{broken}
use Rattle.verdicts.specs.Sights.{Setting}
use Rattle.verdicts.specs.Faults.{rule_faults, tier_faults, first_told, tiers_faults, faults_of}
use Rattle.verdicts.specs.Broken.{BreaksAt, misplaced, repeated, absent, written, Breaks}
use Rattle.verdicts.specs.Laws.{Clean, Listed, FaultLaw}
use Rattle.verdicts.proofs.Members.{rule_from, rule_has}
use Rattle.verdicts.proofs.Order.{rises_near, rules_rise, rule_faults_rise}

-- lists

module _ {A : Type 0} where
  rises_alike : (R : A → A → Type 0) (xs : List A) → ((x y : A) → In x xs → In y xs → R x y) → RisesBy R xs
  rises_alike R [] h = tt
  rises_alike R (x ∷ xs) h = (all_from_in (R x) xs (λ y i. h x y (inl refl) (inr i)), rises_alike R xs (λ y z i j. h y z (inr i) (inr j)))

  -- what rises does so behind its front, and across
  rises_parts : (R : A → A → Type 0) (xs ys : List A) → RisesBy R (xs ++ ys) → RisesBy R ys × ((x y : A) → In x xs → In y ys → R x y)
  rises_parts R [] ys h = (h, λ x y i j. absurd i)
  rises_parts R (z ∷ xs) ys h =
      let r = rises_parts R xs ys h.1 in
      (r.0, λ x y i j. ⊎_elim (λ e. subst (λ a. R a y) (sym e) (in_all (R z) (xs ++ ys) h.0 y (in_right y xs ys j))) (λ k. r.1 x y k j) i)

-- the first list that is not empty

first_cases : (xs ys : List Fault) (y : Fault) → In y (first_told xs ys) → In y xs ⊎ (((z : Fault) → In z xs → ⊥) × In y ys)
first_cases [] ys y m = inr (λ z i. i, m)
first_cases (x ∷ xs) ys y m = inl m

first_has : (xs ys : List Fault) (y : Fault) → In y xs → In y (first_told xs ys)
first_has [] ys y m = absurd m
first_has (x ∷ xs) ys y m = m

second_has : (xs ys : List Fault) (y : Fault) → ((z : Fault) → In z xs → ⊥) → In y ys → In y (first_told xs ys)
second_has [] ys y h m = m
second_has (x ∷ xs) ys y h m = absurd (h x (inl refl))

first_rises : (xs ys : List Fault) → Rises xs → Rises ys → Rises (first_told xs ys)
first_rises [] ys p q = q
first_rises (x ∷ xs) ys p q = p

first_none : (xs ys : List Fault) → verdict_of (first_told xs ys) ≡ None → ((y : Fault) → In y xs → ⊥) × (verdict_of ys ≡ None)
first_none [] ys e = (λ y m. m, e)
first_none (x ∷ xs) ys e = cc

first_some : (xs ys : List Fault) (r : Rule) → verdict_of (first_told xs ys) ≡ Some r
    → (verdict_of xs ≡ Some r) ⊎ (((y : Fault) → In y xs → ⊥) × (verdict_of ys ≡ Some r))
first_some [] ys r e = inr (λ y m. m, e)
first_some (x ∷ xs) ys r e = inl e

-- the verdict of a list

verdict_none : (xs : List Fault) → ((y : Fault) → In y xs → ⊥) → verdict_of xs ≡ None
verdict_none [] h = refl
verdict_none (x ∷ xs) h = absurd (h x (inl refl))

verdict_some : (xs : List Fault) (r : Rule) → verdict_of xs ≡ Some r → (y : Fault) × In y xs × (y.rule ≡ r)
verdict_some [] r e = cc
verdict_some (x ∷ xs) r e = (x, inl refl, grind (arith))

verdict_lowest : (xs : List Fault) (r : Rule) → verdict_of xs ≡ Some r → RisesBy (λ y z. number_of y.rule ≤ number_of z.rule) xs
    → (y : Fault) → In y xs → number_of r ≤ number_of y.rule
verdict_lowest [] r e h y m = absurd m
verdict_lowest (x ∷ xs) r e h y m =
    let q : x.rule ≡ r = grind (arith) in
    ⊎_elim
    (λ i. omega (arith, ap number_of q, ap (λ z. number_of z.rule) i))
    (λ i. omega (arith, ap number_of q, in_all (λ z. number_of x.rule ≤ number_of z.rule) xs h.0 y i))
    m

-- each rule that can be broken at a field, where the tiers have it

abbrev InPlace : Rule → Type 0
InPlace r = slice_get (flat_map rules_of tiers) (number_of r - 11) ≡ Some r

never : {A : Type 0} → false ≡ true → A
never h = absurd cc

tried : (r : Rule) (v : View) (f : Field) → broken r v f ≡ true → InPlace r
unfolding tiers
tried Unmatched v f h = never h
tried Late v f h = never h
tried Dispensed v f h = never h
tried Prescription v f h = never h
tried Uncancellable v f h = never h
tried NoRoom v f h = never h
tried _ v f h = refl

in_place : {v : View} {n k : ℕ} {p : Part} (y : Fault) → BreaksAt v n k p y → InPlace y.rule
unfolding tiers
in_place y (misplaced front w back e h c d) = refl
in_place y (repeated front w back e h c d) = refl
in_place {v = v} y (absent r f b e h) = tried r v f h
in_place {v = v} y (written r f front w back e h i b d m) = tried r v f m

broken_rule : {v : View} {n k : ℕ} {p : Part} (y : Fault) → BreaksAt v n k p y → In y.rule (flat_map rules_of tiers)
broken_rule y b = in_got (flat_map rules_of tiers) (number_of y.rule - 11) y.rule (in_place y b)

numbered : {v : View} {n k : ℕ} {p : Part} (y : Fault) → BreaksAt v n k p y → y.«record» ≡ n
numbered y (misplaced front w back e h c d) = refl
numbered y (repeated front w back e h c d) = refl
numbered y (absent r f b e h) = refl
numbered y (written r f front w back e h i b d m) = refl

module _ (s : Setting) (n : ℕ) (x : Record) where
  tier_from : (t : Tier) (y : Fault) → In y (tier_faults s n x t) → Breaks s n x y × In y.rule (rules_of t)
  tier_from t y m =
      let w = in_flat_map (rule_faults s n x) (rules_of t) y m in
      let q = rule_from s n x w.at y w.within in
      (q.0, subst (λ r. In r (rules_of t)) (sym q.1) w.stands)

  tier_has : (t : Tier) (y : Fault) → Breaks s n x y → In y.rule (rules_of t) → In y (tier_faults s n x t)
  tier_has t y b i = flat_map_has (rule_faults s n x) (rules_of t) y.rule y i (rule_has s n x y b)

  -- what is told of a few tiers

  record Among (ts : List Tier) (y : Fault) : Type 0 where
    breaks : Breaks s n x y
    earlier : List Tier
    tier : Tier
    later : List Tier
    of : In y.rule (rules_of tier)
    order : ts ≡ earlier ++ (tier ∷ later)
    clean : (t : Tier) → In t earlier → Clean s n x t

  among_from : (ts : List Tier) (y : Fault) → In y (tiers_faults s n x ts) → Among ts y
  among_from [] y m = absurd m
  among_from (t ∷ ts) y m =
      ⊎_elim
      (λ i. let w = tier_from t y i in
      record { breaks = w.0; earlier = []; tier = t; later = ts; of = w.1; order = refl; clean = λ u j. absurd j })
      (λ c. let w = among_from ts y c.1 in
      record {
        breaks = w.breaks;
        earlier = t ∷ w.earlier;
        tier = w.tier;
        later = w.later;
        of = w.of;
        order = ap (λ us. t ∷ us) w.order;
        clean = λ u j. ⊎_elim (λ e. subst (Clean s n x) (sym e) (λ z b i. c.0 z (tier_has t z b i))) (w.clean u) j;
      })
      (first_cases (tier_faults s n x t) (tiers_faults s n x ts) y m)

  among_has : (earlier : List Tier) (t : Tier) (later : List Tier) (y : Fault) → Breaks s n x y → In y.rule (rules_of t) → ((u : Tier) → In u earlier → Clean s n x u)
      → In y (tiers_faults s n x (earlier ++ (t ∷ later)))
  among_has [] t later y b i c = first_has (tier_faults s n x t) (tiers_faults s n x later) y (tier_has t y b i)
  among_has (u ∷ us) t later y b i c =
      second_has (tier_faults s n x u) (tiers_faults s n x (us ++ (t ∷ later))) y
      (λ z m. let w = tier_from u z m in c u (inl refl) z w.0 w.1)
      (among_has us t later y b i (λ a j. c a (inr j)))

  only : (y : Fault) → In y (faults_of s n x) → Listed s n x y
  only y m =
      let w = among_from tiers y m in
      record { breaks = w.breaks; earlier = w.earlier; tier = w.tier; later = w.later; of = w.of; order = w.order; clean = w.clean }

  every : (y : Fault) → Listed s n x y → In y (faults_of s n x)
  every y l =
      subst (λ ts. In y (tiers_faults s n x ts)) (sym l.order) (among_has l.earlier l.tier l.later y l.breaks l.of l.clean)

  -- their order

  of_record : (y : Fault) → Breaks s n x y → y.«record» ≡ n
  of_record y b = numbered y b.breaks

  tier_rises : Orderly x → (t : Tier) → Rises (tier_faults s n x t)
  tier_rises o t =
      rises_flat_map Before (λ q r. number_of q < number_of r) (rule_faults s n x) (rules_of t) (rules_rise t) (λ r _. rule_faults_rise s n x o r)
      (λ q r y z l i j.
      let a = rule_from s n x q y i in
      let b = rule_from s n x r z j in
      inr (of_record y a.0 ∙ sym (of_record z b.0), inl (omega (arith, l, ap number_of a.1, ap number_of b.1))))

  tiers_rise : Orderly x → (ts : List Tier) → Rises (tiers_faults s n x ts)
  tiers_rise o [] = tt
  tiers_rise o (t ∷ ts) = first_rises (tier_faults s n x t) (tiers_faults s n x ts) (tier_rises o t) (tiers_rise o ts)

  -- the numbers of their rules rise, of whatever record
  numbers_rise : (t : Tier) → RisesBy (λ y z. number_of y.rule ≤ number_of z.rule) (tier_faults s n x t)
  numbers_rise t =
      rises_flat_map _ (λ q r. number_of q < number_of r) (rule_faults s n x) (rules_of t) (rules_rise t)
      (λ r _. rises_alike _ (rule_faults s n x r) (λ y z i j. omega (arith, ap number_of (rule_from s n x r y i).1, ap number_of (rule_from s n x r z j).1)))
      (λ q r y z l i j. omega (arith, l, ap number_of (rule_from s n x q y i).1, ap number_of (rule_from s n x r z j).1))

  -- the verdict

  none_broken : (ts : List Tier) → verdict_of (tiers_faults s n x ts) ≡ None → (y : Fault) → Breaks s n x y → In y.rule (flat_map rules_of ts) → ⊥
  none_broken [] e y b i = i
  none_broken (t ∷ ts) e y b i =
      let w = first_none (tier_faults s n x t) (tiers_faults s n x ts) e in
      ⊎_elim (λ j. w.0 y (tier_has t y b j)) (none_broken ts w.1 y b) (in_cases y.rule (rules_of t) (flat_map rules_of ts) i)

  lowest_in : (ts : List Tier) → RisesBy (λ q r. number_of q < number_of r) (flat_map rules_of ts) → (r : Rule) → verdict_of (tiers_faults s n x ts) ≡ Some r
      → (y : Fault) → Breaks s n x y → In y.rule (flat_map rules_of ts) → number_of r ≤ number_of y.rule
  lowest_in [] h r e y b i = absurd i
  lowest_in (t ∷ ts) h r e y b i =
      let w = rises_parts (λ q r. number_of q < number_of r) (rules_of t) (flat_map rules_of ts) h in
      let in_tier = in_cases y.rule (rules_of t) (flat_map rules_of ts) i in
      ⊎_elim
      (λ v.
      ⊎_elim
      (λ j. verdict_lowest (tier_faults s n x t) r v (numbers_rise t) y (tier_has t y b j))
      (λ j.
      let f = verdict_some (tier_faults s n x t) r v in
      let k = w.1 r y.rule (subst (λ q. In q (rules_of t)) f.2 (tier_from t f.0 f.1).1) j in omega arith)
      in_tier)
      (λ v. ⊎_elim (λ j. absurd (v.0 y (tier_has t y b j))) (lowest_in ts w.0 r v.1 y b) in_tier)
      (first_some (tier_faults s n x t) (tiers_faults s n x ts) r e)

pub fault_law : (s : Setting) (n : ℕ) (x : Record) → FaultLaw s n x
unfolding tiers
fault_law s n x = record {
  only = only s n x;
  every = every s n x;
  numbered = λ y m. of_record s n x y (only s n x y m).breaks;
  rises = λ upload w. tiers_rise s n x w.order tiers;
  accepts = (λ e y b. none_broken s n x tiers e y b (broken_rule y b.breaks), λ h. verdict_none (faults_of s n x) (λ y m. h y (only s n x y m).breaks));
  refuses = λ r e. let f = verdict_some (faults_of s n x) r e in (f.0, (only s n x f.0 f.1).breaks, f.2);
  lowest = λ r e y b. lowest_in s n x tiers (rises_near number_of (flat_map rules_of tiers) refl) r e y b (broken_rule y b.breaks);
}
