-- A walk of any rule leaves nothing out. Assumes nothing.
use Rattle.std.proofs.Common.{◌≡◌, ℕ, ◌+◌, ◌<◌, ◌≤◌, Bool, not, ◌&&◌, arith, true, false, List, [], ◌∷◌, length, take, drop, get_or, Some, None, Option, refl, sym, ap, ◌∙◌, subst, ⊎_elim, inl, inr}
use Rattle.std.proofs.lemmas.List.{drop_all, drop_more}
use Rattle.std.proofs.lemmas.List.Sums.{fold-append}
use Rattle.std.specs.Prelude.{is_some, IsTrue}
use Rattle.std.specs.List.{flat_map}
use Rattle.records.specs.Records.{Written, Part, Record, order_parts}
use Rattle.fields.specs.Fields.{id_of, fields_of}
use Rattle.faults.specs.Along.{along, In}
use Rattle.faults.specs.Reports.{told_one, told}
use Rattle.faults.specs.declared.report.Report.{Report}
use Rattle.faults.proofs.Reports.{nothing_told}
use Rattle.faults.specs.Rules.{rules_of, tiers}
use Rattle.faults.specs.declared.report.Fault.{Fault}
use Rattle.faults.specs.declared.rules.Rule.{Rule}
use Rattle.faults.specs.declared.rules.Tier.{Tier}
use Rattle.faults.proofs.Along.{in_left, in_right, in_cases, along_has, in_along, flat_map_has, in_flat_map, flat_map_take, in_given}
use Rattle.faults.specs.declared.rules.Rule.TheVariants.{Misplaced, Repeated}
use Rattle.fields.specs.Fields.{field_at}
use Rattle.fields.specs.declared.field.Field.{Field}
use Rattle.cells.specs.Filled.{is_written}
use Rattle.grammar.specs.declared.states.Segment.{Segment}
use Rattle.rules.specs.Places.{rules_at}
use Rattle.rules.specs.Rules.{broken}
use Rattle.rules.specs.Views.{View, has as field_has}
use Rattle.rules.proofs.Telling.{told as told_at}
use Rattle.std.specs.Option.{option_map_or}
use Rattle.verdicts.specs.Sights.{Setting, view}
use Rattle.verdicts.specs.Faults.{lacks, lacking, again, offends, strikes, fault, place_of, striking, part_faults, order_faults, head_faults, rule_faults, tier_faults, tiers_faults, first_told, faults_of}
use Rattle.verdicts.specs.Walks.{lacking_any, striking_any, part_walk, order_walk, head_walk, record_walk}

-- a rule that a field with a value breaks is among those that are tried there
tried : (r : Rule) (v : View) (o : Option Field) (b : Bool) → (not b && option_map_or (broken r v) o false) ≡ true → In r (rules_at o)
tried r v None b h = absurd (let k : false ≡ true = grind (arith, h) in cc)
tried r v (Some f) b h = told_at r v f (grind (arith, h))

either : (o : Option Field) → In Misplaced (rules_at o) × In Repeated (rules_at o)
either None = (inl refl, inr (inl refl))
either (Some f) = (inl refl, inr (inl refl))

tried_at : (r : Rule) (v : View) (g : Segment) (b : Bool) (w : Written) → offends r v g b w ≡ true → In r (rules_at (field_at g w.id))
tried_at Misplaced v g b w h = (either (field_at g w.id)).0
tried_at Repeated v g b w h = (either (field_at g w.id)).1
tried_at r v g b w h = tried r v (field_at g w.id) b h

both : (a b : Bool) → (a && b) ≡ true → b ≡ true
both a b h = grind (arith, h)

module _ (r : Rule) (y : Fault) where
  in_lacking : (v : View) (n k tag : ℕ) (f : Field) → In y (lacking r v n k tag f) → In y (lacking_any None v n k tag f)
  in_lacking v n k tag f h =
      flat_map_has (λ q. lacking q v n k tag f) (rules_at (Some f)) r y (told_at r v f (both (not (field_has v f)) (broken r v f) (in_given (lacks r v f) (fault n k r (id_of f) tag) y h).0)) h

  in_striking : (v : View) (g : Segment) (n k : ℕ) (before : List Written) (w : Written) → In y (striking r v g n k before w) → In y (striking_any None v g n k before w)
  in_striking v g n k before w h =
      flat_map_has (λ q. striking q v g n k before w) (rules_at (field_at g w.id)) r y
      (tried_at r v g (again before w) w (both (is_written w) (offends r v g (again before w) w) (in_given (strikes r v g (again before w) w) (fault n k r w.id (place_of r w)) y h).0)) h

  in_part : (v : View) (n k : ℕ) (p : Part) → In y (part_faults r v n k p) → In y (part_walk None v n k p)
  in_part v n k p h =
      ⊎_elim
      (λ a.
      let w = in_flat_map (lacking r v n k p.tag) (fields_of p.segment) y a in
      in_left y _ _ (flat_map_has (lacking_any None v n k p.tag) (fields_of p.segment) w.at y w.stands (in_lacking v n k p.tag w.at w.within)))
      (λ b.
      let w = in_along (striking r v p.segment n k) [] p.fields y b in
      in_right y _ _ (subst (λ ws. In y (along (striking_any None v p.segment n k) [] ws)) (sym w.stands)
      (along_has (striking_any None v p.segment n k) [] w.front w.at w.back y (in_striking v p.segment n k w.front w.at w.within))))
      (in_cases y (flat_map (lacking r v n k p.tag) (fields_of p.segment)) (along (striking r v p.segment n k) [] p.fields) h)

  in_head : (s : Setting) (n : ℕ) (x : Record) → In y (head_faults s n x r) → In y (head_walk s n x None)
  in_head s n x h =
      ⊎_elim (λ a. in_left y _ _ (in_part (view s x [] []) n 0 x.header a)) (λ b. in_right y _ _ (in_part (view s x [] []) n 1 x.visit b))
      (in_cases y (part_faults r (view s x [] []) n 0 x.header) (part_faults r (view s x [] []) n 1 x.visit) h)

  in_record : (s : Setting) (n : ℕ) (x : Record) → In y (rule_faults s n x r) → In y (record_walk s n x None)
  in_record s n x h =
      ⊎_elim
      (λ a. in_left y _ _ (in_head s n x a))
      (λ b.
      let w = in_along (order_faults s n x r) [] (order_parts x) y b in
      in_right y _ _ (subst (λ ps. In y (along (order_walk s n x None) [] ps)) (sym w.stands)
      (along_has (order_walk s n x None) [] w.front w.at w.back y (in_part (view s x w.front w.at.fields) n (2 + length w.front) w.at w.within))))
      (in_cases y (head_faults s n x r) (along (order_faults s n x r) [] (order_parts x)) h)

none_in : {A : Type 0} (xs : List A) → ((y : A) → ¬ In y xs) → xs ≡ []
none_in [] h = refl
none_in (x ∷ xs) h = absurd (h x (inl refl))

-- a record of which a walk of any rule tells nothing
tier_clean : (s : Setting) (n : ℕ) (x : Record) (t : Tier) → record_walk s n x None ≡ [] → tier_faults s n x t ≡ []
tier_clean s n x t e =
    none_in (tier_faults s n x t)
    (λ y h. let w = in_flat_map (rule_faults s n x) (rules_of t) y h in subst (λ ys. In y ys) e (in_record w.at y s n x w.within))

tiers_clean : (s : Setting) (n : ℕ) (x : Record) (ts : List Tier) → record_walk s n x None ≡ [] → tiers_faults s n x ts ≡ []
tiers_clean s n x [] e = refl
tiers_clean s n x (t ∷ ts) e = ap (λ fs. first_told fs (tiers_faults s n x ts)) (tier_clean s n x t e) ∙ tiers_clean s n x ts e

pub clean : (s : Setting) (n : ℕ) (x : Record) → record_walk s n x None ≡ [] → faults_of s n x ≡ []
clean s n x e = tiers_clean s n x tiers e

-- a tier of which something is told is the one whose faults are told
pub told_first : (r : Report) (fs gs : List Fault) (v : Option Rule) → (told r fs).verdict ≡ v → r.verdict ≡ None → is_some v ≡ true → first_told fs gs ≡ fs
told_first r [] gs v e k h = absurd (let b : None ≡ v = sym k ∙ e in let d : false ≡ true = ap is_some b ∙ h in cc)
told_first r (f ∷ fs) gs v e k h = refl

-- else the next tiers decide
pub told_next : (r : Report) (fs gs : List Fault) → (told r fs).verdict ≡ None → (first_told fs gs ≡ gs) × (told r fs ≡ r)
told_next r fs gs e = let n = nothing_told fs r e in (ap (λ xs. first_told xs gs) n, ap (λ xs. told r xs) n)

pub tiers_more : (s : Setting) (n : ℕ) (x : Record) (ts : List Tier) (i : ℕ) (d : Tier) → i < length ts
    → tiers_faults s n x (drop i ts) ≡ first_told (tier_faults s n x (get_or ts i d)) (tiers_faults s n x (drop (i + 1) ts))
tiers_more s n x ts i d l = ap (tiers_faults s n x) (drop_more ts i d l)

-- a rule more, in the tier's walk of one rule after another
pub rule_more : (s : Setting) (n : ℕ) (x : Record) (rs : List Rule) (i : ℕ) (d : Rule) (start now next : Report) → i < length rs
    → now ≡ told start (flat_map (rule_faults s n x) (take i rs)) → next ≡ told now (record_walk s n x (Some (get_or rs i d))) → next ≡ told start (flat_map (rule_faults s n x) (take (i + 1) rs))
rule_more s n x rs i d start now next l e k =
    rw (flat_map_take (rule_faults s n x) rs i d l)
    (k ∙ ap (λ r. told r (rule_faults s n x (get_or rs i d))) e
    ∙ sym (fold-append told_one start (flat_map (rule_faults s n x) (take i rs)) (rule_faults s n x (get_or rs i d))))

-- in the walk of one tier after another, the tier of which something is told is the last
pub tier_told : (s : Setting) (n : ℕ) (x : Record) (ts : List Tier) (i : ℕ) (d : Tier) (now next : Report) → i < length ts → now.verdict ≡ None
    → next ≡ told now (tier_faults s n x (get_or ts i d)) → is_some next.verdict ≡ true → next ≡ told now (tiers_faults s n x (drop i ts))
tier_told s n x ts i d now next l e k v =
    k ∙ ap (λ fs. told now fs) (sym (tiers_more s n x ts i d l ∙ told_first now (tier_faults s n x (get_or ts i d)) _ next.verdict (ap (λ r. r.verdict) (sym k)) e v))

-- and where nothing is told the next decides
pub tier_passed : (s : Setting) (n : ℕ) (x : Record) (ts : List Tier) (i : ℕ) (d : Tier) (now next : Report) → i < length ts
    → next ≡ told now (tier_faults s n x (get_or ts i d)) → is_some next.verdict ≡ false → (next ≡ now) × (tiers_faults s n x (drop i ts) ≡ tiers_faults s n x (drop (i + 1) ts))
tier_passed s n x ts i d now next l k v =
    let e = told_next now (tier_faults s n x (get_or ts i d)) (tiers_faults s n x (drop (i + 1) ts)) (ap (λ r. r.verdict) (sym k) ∙ none_of next.verdict v) in
    (k ∙ e.1, tiers_more s n x ts i d l ∙ e.0)
  where
    none_of : (o : Option Rule) → is_some o ≡ false → o ≡ None
    none_of None h = refl
    none_of (Some r) h = absurd (let b : true ≡ false = h in cc)

pub no_tier_left : (s : Setting) (n : ℕ) (x : Record) (ts : List Tier) (i : ℕ) → length ts ≤ i → tiers_faults s n x (drop i ts) ≡ []
no_tier_left s n x ts i l = ap (tiers_faults s n x) (drop_all i ts l)

no_verdict : (o : Option Rule) {b : Bool} → is_some o ≡ not b → b ≡ true → o ≡ None
no_verdict None e h = refl
no_verdict (Some r) {b} e h = absurd (let k : true ≡ not true = subst (λ t. true ≡ not t) h e in cc)

-- so where a walk that tries every rule leaves none, nothing is broken
pub unbroken : (s : Setting) (n : ℕ) (x : Record) (start next : Report) (o : Option Rule) (b : Bool) → is_some o ≡ not b → o ≡ next.verdict
    → next ≡ told start (record_walk s n x None) → IsTrue b → faults_of s n x ≡ []
unbroken s n x start next o b t v e h =
    clean s n x (nothing_told (record_walk s n x None) start (sym (ap (λ r. r.verdict) e) ∙ sym v ∙ no_verdict o t h))
