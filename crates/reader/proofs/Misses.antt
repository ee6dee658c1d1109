-- Where another tag stands than must, the upload breaks off in that tag. Assumes nothing.
use Rattle.std.proofs.Common.{◌≡◌, ◌≢◌, ℕ, zero, suc, ◌+◌, ◌-◌, ◌<◌, ◌≤◌, Bool, true, false, ◌&&◌, List, [], ◌∷◌, ◌++◌, length, take, drop, codes, refl, sym, ap, ◌∙◌, subst, arith}
use Rattle.std.proofs.lemmas.Bool.{and_parts}
use Rattle.std.proofs.lemmas.List.{take-append-drop, take-take, length-take-le}
use Rattle.grammar.specs.Grammar.{name, spelling, Leads}
use Rattle.grammar.specs.Threads.{Thread, spells, named, tens, ones, shut, value, trails, slash, repeats, steps, run, start}
use Rattle.grammar.specs.declared.states.Element.TheVariants.{Recs, Rec, Msh, Mb, Mb1, Mb2}
use Rattle.grammar.specs.declared.states.State.{State}
use Rattle.grammar.specs.declared.states.State.TheVariants.{Record, Body}
use Rattle.grammar.specs.declared.states.Tag.{Tag}
use Rattle.grammar.specs.declared.states.Tag.TheVariants.{Open, Close}
use Rattle.grammar.proofs.Runs.{run_append, run_none}
use Rattle.grammar.proofs.Walks.{leads_run}
use Rattle.reader.specs.Spans.{Spans}
use Rattle.reader.specs.Places.{TagStands}
use Rattle.reader.proofs.Spanning.{spans_front}

-- nothing goes on, or a tag of the structure with a byte to come
abbrev pub in_tag : List Thread → Bool
in_tag [] = true
in_tag (spells [] s ∷ ts) = false
in_tag (spells (x ∷ t) s ∷ ts) = true
in_tag (named g ∷ ts) = false
in_tag (tens g a ∷ ts) = false
in_tag (ones g a b ∷ ts) = false
in_tag (shut g i ∷ ts) = false
in_tag (value g i ∷ ts) = false
in_tag (trails g i ∷ ts) = false
in_tag (slash g i ∷ ts) = false
in_tag (repeats t g ∷ ts) = false

-- so it is behind each byte
abbrev all_in_tag : List Thread → List ℕ → Bool
all_in_tag ts [] = true
all_in_tag ts (x ∷ w) = in_tag (steps x ts) && all_in_tag (steps x ts) w

in_tag_at : (ts : List Thread) (w : List ℕ) (n : ℕ) → all_in_tag ts w ≡ true → 0 < n → n ≤ length w → in_tag (run ts (take n w)) ≡ true
in_tag_at ts [] n h l m = absurd (omega arith)
in_tag_at ts (x ∷ w) zero h l m = absurd (omega arith)
in_tag_at ts (x ∷ w) (suc zero) h l m = (and_parts (in_tag (steps x ts)) (all_in_tag (steps x ts) w) h).0
in_tag_at ts (x ∷ w) (suc (suc n)) h l m = in_tag_at (steps x ts) w (suc n) (and_parts (in_tag (steps x ts)) (all_in_tag (steps x ts) w) h).1 (omega arith) (omega arith)

none_in_tag : (w : List ℕ) → all_in_tag [] w ≡ true
none_in_tag [] = refl
none_in_tag (x ∷ w) = none_in_tag w

-- a tag that does not go on from a state
pub record Astray (s : State) (t : Tag) : Type 0 where
  pub within : all_in_tag (spells [] s ∷ []) (spelling t) ≡ true
  pub dead : run (spells [] s ∷ []) (spelling t) ≡ []

pub astray_header : (t : Tag) → t ≢ Open Msh → Astray Record t
astray_header (Open Recs) n = record { within = refl; dead = refl }
astray_header (Open Rec) n = record { within = refl; dead = refl }
astray_header (Open Msh) n = absurd (n refl)
astray_header (Open Mb) n = record { within = refl; dead = refl }
astray_header (Open Mb1) n = record { within = refl; dead = refl }
astray_header (Open Mb2) n = record { within = refl; dead = refl }
astray_header (Close e) n = record { within = none_in_tag (name e ++ codes ">"); dead = run_none (name e ++ codes ">") }

pub astray_visit : (t : Tag) → t ≢ Open Mb1 → Astray Body t
astray_visit (Open Recs) n = record { within = refl; dead = refl }
astray_visit (Open Rec) n = record { within = refl; dead = refl }
astray_visit (Open Msh) n = record { within = refl; dead = refl }
astray_visit (Open Mb) n = record { within = refl; dead = refl }
astray_visit (Open Mb1) n = absurd (n refl)
astray_visit (Open Mb2) n = record { within = refl; dead = refl }
astray_visit (Close e) n = record { within = none_in_tag (name e ++ codes ">"); dead = run_none (name e ++ codes ">") }

module _ (u : List ℕ) (j : ℕ) (s : State) (t : Tag) (leads : Leads (take j u) s) (stands : TagStands u j t) (a : Astray s t) where
  runs : (v : List ℕ) (k : ℕ) → Spans u j v k → run start (take k u) ≡ run (spells [] s ∷ []) v
  runs v k p = ap (run start) p.is ∙ run_append start (take j u) v ∙ ap (λ ts. run ts v) (leads_run (take j u) s leads)

  pub dead_behind : run start (take (j + length (spelling t)) u) ≡ []
  dead_behind = runs (spelling t) (j + length (spelling t)) stands ∙ a.dead

  pub in_tag_between : (m : ℕ) → j < m → m ≤ j + length (spelling t) → in_tag (run start (take m u)) ≡ true
  in_tag_between m l n =
      let k = m - j in
      let p = spans_front u j (j + length (spelling t)) (take k (spelling t)) (drop k (spelling t)) (subst (λ (x : List ℕ). Spans u j x (j + length (spelling t))) (sym (take-append-drop k (spelling t))) stands) in
      let e : j + length (take k (spelling t)) ≡ m = let z = length-take-le k (spelling t) (omega arith) in omega arith in
      ap in_tag (ap (λ (i : ℕ). run start (take i u)) (sym e) ∙ runs (take k (spelling t)) (j + length (take k (spelling t))) p)
      ∙ in_tag_at (spells [] s ∷ []) (spelling t) k a.within (omega arith) (omega arith)

-- where nothing goes on, nothing goes on behind
pub dead_on : (u : List ℕ) (m k : ℕ) → m ≤ k → run start (take m u) ≡ [] → run start (take k u) ≡ []
dead_on u m k l h =
    ap (run start) (sym (take-append-drop m (take k u)) ∙ ap (λ (x : List ℕ). x ++ drop m (take k u)) (take-take m k u l))
    ∙ run_append start (take m u) (drop m (take k u)) ∙ ap (λ ts. run ts (drop m (take k u))) h ∙ run_none (drop m (take k u))
