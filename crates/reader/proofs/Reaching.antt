-- From station to station. Assumes nothing.
use Rattle.std.proofs.Common.{◌≡◌, ℕ, ◌+◌, ◌-◌, ◌*◌, ◌<◌, ◌≤◌, List, [], ◌∷◌, ◌++◌, length, take, refl, sym, ap, ◌∙◌, subst, append_assoc, append-nil, length-append, arith}
use Rattle.grammar.specs.Grammar.{declaration, empty, opening, closing, spelling, Turn, opens_records, opens_record, opens_header, closes_header, opens_body, opens_visit, closes_visit, opens_order, closes_order, closes_body, closes_record, closes_records, Path, here, skips, turns, holds, Leads}
use Rattle.grammar.specs.declared.states.State.{State}
use Rattle.grammar.specs.declared.states.State.TheVariants.{Start, Within}
use Rattle.grammar.specs.declared.states.Tag.{Tag}
use Rattle.grammar.specs.declared.states.Tag.TheVariants.{Open, Close}
use Rattle.reader.specs.Spans.{Spans, Whites}
use Rattle.reader.specs.Scans.{SkipsWhite}
use Rattle.reader.specs.Readings.{Part, structure_part, Reading, structure, opening_tag, value, closing_tag}
use Rattle.reader.specs.Moves.{Reached, Ready, StandsAt, after}
use Rattle.reader.specs.declared.stations.Station.{Station}
use Rattle.reader.specs.declared.stations.Station.TheVariants.{Between, Opened, Filled}

-- a path and a path behind it
pub path-append : {s m n : State} {u w : List ℕ} → Path s u m → Path m w n → Path s (u ++ w) n
path-append here q = q
path-append (skips h p) q = skips h (path-append p q)
path-append {n = n} {w = w} (turns {s = s} {t = t} {w = v} h p) q =
    subst (λ (x : List ℕ). Path s x n) (sym (append_assoc (spelling t) v w)) (turns h (path-append p q))
path-append {n = n} {w = w} (holds {g = g} {i = i} {v = v} {w = x} d h p) q =
    subst (λ (y : List ℕ). Path (Within g) y n) (ap (λ (z : List ℕ). opening i ++ z) (sym (append_assoc v (closing i ++ x) w))) (holds d h (path-append p q))

pub whites_path : (s : State) (v : List ℕ) → Whites v → Path s v s
whites_path s [] h = here
whites_path s (b ∷ v) h = skips h.0 (whites_path s v h.1)

pub leads_on : (u : List ℕ) (s n : State) (w : List ℕ) → Leads u s → Path s w n → Leads (u ++ w) n
leads_on u s n w l p =
    record {
      rest = l.rest ++ w;
      declared = ap (λ (x : List ℕ). x ++ w) l.declared ∙ append_assoc declaration l.rest w;
      path = path-append l.path p;
    }

module _ (u : List ℕ) (at : ℕ) where
  -- the reader stands at the next station
  reached_on : (s : Station) (x : Part) (n : Station) (to : ℕ) → Reached (take at u) s → Reading u at s x n to → Reached (take to u) n
  reached_on _ x _ to l (structure {s} {n} {t} h r) =
      subst (λ (w : List ℕ). Leads w n) (sym r.spans.is) (leads_on (take at u) s n (spelling t ++ r.skipped) l (turns h (whites_path n r.skipped r.white)))
  reached_on _ x _ to l (opening_tag r) = record { before = take at u; leads = l; id = r.id; value = empty; is = r.spans.is }
  reached_on _ x _ to l (value {g} {i} {v} h p b e) = (
    v,
    record {
      before = l.before;
      leads = l.leads;
      id = l.id;
      value = h;
      is = p.is ∙ ap (λ (w : List ℕ). w ++ v) l.is ∙ append_assoc l.before (opening i) v ∙ ap (λ (w : List ℕ). l.before ++ (opening i ++ w)) (sym (append-nil v));
    },
  )
  reached_on _ x _ to l (closing_tag {g} {i} w h p e) =
      subst (λ (y : List ℕ). Leads y (Within g))
      (sym (p.is ∙ ap (λ (y : List ℕ). y ++ (closing i ++ w)) (l.1.is ∙ ap (λ (y : List ℕ). l.1.before ++ (opening i ++ y)) (append-nil l.0)) ∙ append_assoc l.1.before (opening i ++ l.0) (closing i ++ w) ∙ ap (λ (y : List ℕ). l.1.before ++ y) (append_assoc (opening i) l.0 (closing i ++ w))))
      (leads_on l.1.before (Within g) (Within g) (opening i ++ (l.0 ++ (closing i ++ w))) l.1.leads (holds l.1.id l.1.value (whites_path (Within g) w h)))

  ready_on : (s : Station) (x : Part) (n : Station) (to : ℕ) → Reading u at s x n to → Ready u to n
  ready_on _ x _ to (structure h r) = r.settles
  ready_on _ x _ to (opening_tag r) = tt
  ready_on _ x _ to (value h p b e) = e
  ready_on _ x _ to (closing_tag w h p e) = e

  within_on : (s : Station) (x : Part) (n : Station) (to : ℕ) → Reading u at s x n to → to ≤ length u
  within_on _ x _ to (structure h r) = r.spans.within
  within_on _ x _ to (opening_tag r) = r.spans.within
  within_on _ x _ to (value h p b e) = p.within
  within_on _ x _ to (closing_tag w h p e) = p.within

  pub stands_on : (s : Station) (x : Part) (n : Station) (to : ℕ) → StandsAt u at s → Reading u at s x n to → StandsAt u to n
  stands_on s x n to h r = record { within = within_on s x n to r; reached = reached_on s x n to h.reached r; ready = ready_on s x n to r }

  -- the station that state and token decide is that behind the token
  after_structure : (s n : State) (t : Tag) → Turn s t n → after (Between s) (structure_part t at) ≡ Between n
  after_structure _ _ _ opens_records = refl
  after_structure _ _ _ opens_record = refl
  after_structure _ _ _ opens_header = refl
  after_structure _ _ _ closes_header = refl
  after_structure _ _ _ opens_body = refl
  after_structure _ _ _ opens_visit = refl
  after_structure _ _ _ closes_visit = refl
  after_structure _ _ _ opens_order = refl
  after_structure _ _ _ closes_order = refl
  after_structure _ _ _ closes_body = refl
  after_structure _ _ _ closes_record = refl
  after_structure _ _ _ closes_records = refl

  pub after_is : (s : Station) (x : Part) (n : Station) (to : ℕ) → Reading u at s x n to → after s x ≡ n
  after_is _ x _ to (structure {s} {n} {t} h r) = ap (after (Between s)) r.is ∙ after_structure s n t h
  after_is _ x _ to (opening_tag {g} r) = ap (after (Between (Within g))) r.is
  after_is _ x _ to (value h p b e) = refl
  after_is _ x _ to (closing_tag w h p e) = refl

-- what is left to read falls with each token
abbrev pub left : List ℕ → ℕ → Station → ℕ
left u at (Between s) = 2 * (length u - at)
left u at (Opened g i) = 2 * (length u - at) + 1
left u at (Filled g i) = 2 * (length u - at)

pub tag_some : (t : Tag) → 0 < length (spelling t)
tag_some (Open e) = omega arith
tag_some (Close e) = omega arith

pub left_falls : (u : List ℕ) (at : ℕ) (s : Station) (x : Part) (n : Station) (to : ℕ) → at ≤ length u → Reading u at s x n to → left u to n < left u at s
left_falls u at _ x _ to l (structure {s} {n} {t} h r) = let e = r.spans.ends in let k = length-append (spelling t) r.skipped in let m = tag_some t in let w = r.spans.within in omega arith
left_falls u at _ x _ to l (opening_tag r) = let e = r.spans.ends in let w = r.spans.within in omega arith
left_falls u at _ x _ to l (value {v = v} h p b e) = let f = p.ends in omega arith
left_falls u at _ x _ to l (closing_tag w h p e) = let f = p.ends in let w = p.within in omega arith

-- behind the declaration
pub begun : (u : List ℕ) (end to : ℕ) → Spans u 0 declaration end → SkipsWhite u end to → StandsAt u to (Between Start)
begun u end to p w =
    record {
      within = w.spans.within;
      reached = record { rest = w.skipped; declared = w.spans.is ∙ ap (λ (x : List ℕ). x ++ w.skipped) p.is; path = whites_path Start w.skipped w.white };
      ready = w.settles;
    }

-- the reader of u, which holds v, stands where it may
pub record Sofar (u v : List ℕ) (at : ℕ) (s : Station) : Type 0 where
  pub same : v ≡ u
  pub stands : StandsAt v at s

pub sofar_on : (u v w : List ℕ) (at : ℕ) (s : Station) (x : Part) (n : Station) (to : ℕ) → Sofar u v at s → w ≡ v → Reading v at s x n to → Sofar u w to n
sofar_on u v w at s x n to h e r = record { same = e ∙ h.same; stands = subst (λ (y : List ℕ). StandsAt y to n) (sym e) (stands_on v at s x n to h.stands r) }
